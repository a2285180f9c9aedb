-- What the scopes of bodies, of items and of a module have twice. Assumes nothing.
use Rattle.std.proofs.Common.{◌≡◌, ℕ, ◌+◌, flat_map, ◌≤◌, List, [], ◌++◌, drop, length, map, take, Option, Some, slice_index_or, ap, sym, ◌∙◌, subst, arith, append-nil}
use Rattle.std.proofs.lemmas.List.{length-map}
use Rattle.grammar.specs.Trees.{Body, body, Locals, Sequence, Fields, Opt, Moditem, blank, external_procs, external_store, record_mode, own, entry, Module}
use Rattle.nodes.specs.declared.Node.{Node}
use Rattle.nodes.specs.declared.Node.TheVariants.{Body as BodyNode, RecordMode}
use Rattle.nodes.specs.Nodes.{At, IsBody, IsFields, IsLocals, IsOpt, IsSequence, IsModitem, blank_node}
use Rattle.statics.specs.Scopes.{Text}
use Rattle.statics.specs.Order.{InBody, InSequence, InModule}
use Rattle.statics.specs.Written.{Site, items, gather}
use Rattle.statics.specs.Statements.{entries}
use Rattle.statics.specs.Modules.{fields, parameters, moditem_names}
use Rattle.statics.specs.Blocks.{inner_blocks}
use Rattle.statics.specs.DeclaredTwice.{body_scopes, moditem_scopes, scopes}
use Rattle.statics.specs.JudgeLimits.{doubles, least}
use Rattle.lists.specs.Lists.{Stand, of_many}
use Rattle.scopes.specs.declared.Declared.{Declared}
use Rattle.frames.specs.Frames.{Behind, site_means, part_site, parameter_site}
use Rattle.frames.specs.Rooms.{Room, Roomy}
use Rattle.frames.proofs.Counts.{locals_fit, sequence_room, components_fit}
use Rattle.frames.proofs.Entering.{Roomed, module_roomed, both_parts}
use Rattle.limits.specs.declared.Procedure.{Procedure}
use Rattle.limits.specs.Procedures.{Found}
use Rattle.limits.specs.Twice.{block_scope, earliest_double}
use Rattle.limits.proofs.Least.{meet, least_append}
use Rattle.limits.proofs.Looking.{Looking, looking_in_many}
use Rattle.limits.proofs.Parts.{parts}
use Rattle.limits.proofs.Tables.{items_of, part_items, fresh_items}

module _ (x : Text) where
  module _ (ns : List Node) (k : ℕ) where
    pub body_found : (b : Body) (l r : ℕ) (base given end : ℕ) (old new part : List Declared) (here inside o : Option ℕ) → At ns k (BodyNode l r) → IsBody b ns k → base ≤ given → Room InBody b given (length old) → length new ≡ length old → ((ls : Locals) → IsLocals ls ns l → Behind (site_means x []) (entries x ls) given old end new) → (base ≤ end → end ≤ length new → part ≡ drop base (take end new)) → here ≡ least (doubles x (items_of part)) → ((ss : Sequence) → IsSequence ss ns r → Room InSequence ss base (length new) → inside ≡ earliest_double x (inner_blocks (block_scope x) ss)) → o ≡ meet here inside → o ≡ earliest_double x (body_scopes x (items_of (drop base (take given old))) b)
    body_found (body ls s) l r base given end old new part here inside o at is le room same behind asked e f d =
        let w = both_parts ns k l r ls s at is in
        let fits = locals_fit x ls s given (length old) room in
        let put = behind ls w.1 in
        let within = sequence_room x ls s given (length old) room in
        let ends : end ≡ given + length (entries x ls) = (put fits).0 in
        let order : base ≤ end = omega (arith, ends, le) in
        let scope = items_of (drop base (take given old)) ++ items (entries x ls) in
        let names : items_of part ≡ scope = ap items_of (asked order (omega (arith, ends, fits, same))) ∙ part_items x (entries x ls) base given old end new le fits put in
        d
        ∙ ap (λ (u : Option ℕ). meet u inside) (e ∙ ap (λ (t : List ℕ). least (doubles x t)) names)
        ∙ ap (meet (least (doubles x scope))) (f s w.2 (within.0, within.1, within.2, omega (arith, within.3, le, same)))
        ∙ sym (least_append (doubles x scope) (flat_map (doubles x) (inner_blocks (block_scope x) s)))

    pub record_found : (a : Moditem) (m : Node) (i j list : ℕ) (count end : ℕ) (old new part : List Declared) (o : Option ℕ) → m ≡ slice_index_or ns k blank_node → m ≡ RecordMode i j list → IsModitem a ns k → Roomy x count (length old) a → length new ≡ length old → ((fs : Fields) → IsFields fs ns list → Behind (site_means x []) (map part_site (fields x fs)) count old end new) → (count ≤ end → end ≤ length new → part ≡ drop count (take end new)) → o ≡ least (doubles x (items_of part)) → o ≡ earliest_double x (moditem_scopes x a)
    record_found blank m i j list count end old new part o e at is room same behind asked d = absurd (cc (e, at, is))
    record_found (external_procs n ms g xs) m i j list count end old new part o e at is room same behind asked d = absurd (cc (e, at, is.6))
    record_found (external_store n ds) m i j list count end old new part o e at is room same behind asked d = absurd (cc (e, at, is.2))
    record_found (own b) m i j list count end old new part o e at is room same behind asked d = absurd (cc (e, at, is.2))
    record_found (entry b) m i j list count end old new part o e at is room same behind asked d = absurd (cc (e, at, is.2))
    record_found (record_mode n q fs) m i j list count end old new part o e at is room same behind asked d =
        let p : is.0 ≡ list = cc (e, at, is.2) in
        let fits = components_fit x count (length old) n q fs room in
        let put = fresh_items x part_site (fields x fs) count old end new fits (behind fs (subst (λ (h : ℕ). IsFields fs ns h) p is.3)) in
        let order : count ≤ end = omega (arith, put.0) in
        let names : items_of part ≡ map (λ f. f.item) (fields x fs) = ap items_of (asked order (omega (arith, put.0, fits, same))) ∙ put.1 in
        d ∙ ap (λ (t : List ℕ). least (doubles x t)) names ∙ ap least (sym (append-nil (doubles x (map (λ f. f.item) (fields x fs)))))

  module _ (ns : List Node) (count end : ℕ) (old new : List Declared) (o : Option ℕ) where
    pub moditem_found : (a : Moditem) (p : Procedure) → length new ≡ length old → Found ns a (Some p) → Roomy x count (length old) a → ((ps : Opt Fields) → IsOpt IsFields ps ns p.parameters → Behind (site_means x []) (map parameter_site (parameters x ps)) count old end new) → ((b : Body) → IsBody b ns p.body → count ≤ end → Room InBody b end (length new) → o ≡ earliest_double x (body_scopes x (items_of (drop count (take end new))) b)) → o ≡ earliest_double x (moditem_scopes x a)
    moditem_found a p same found room behind inside =
        let w = parts x ns count (length old) p a found room in
        let put = fresh_items x parameter_site (parameters x w.ps) count old end new w.fits (behind w.ps w.fields) in
        let within : Room InBody w.b end (length new) = (w.room.0, w.room.1, w.room.2, omega (arith, w.room.3, put.0, same)) in
        inside w.b w.body (omega (arith, put.0)) within
        ∙ ap (λ (l : List ℕ). earliest_double x (body_scopes x l w.b)) put.1
        ∙ ap (earliest_double x) (sym w.has)

-- The loop over the items of a module begins with what its own names come to.
pub moditems_in : (x : Text) (ns : List Node) (count n : ℕ) (m : Module) (ks js : List ℕ) (names : List ℕ) (b : Option ℕ) → ks ≡ js → Stand IsModitem (of_many m) ns js → Room InModule m 0 n → length names ≡ count → names ≡ items (gather (moditem_names x) m) → b ≡ least (doubles x names) → Looking (doubles x) (moditem_scopes x) (Roomed x count n) ns ks b (least (flat_map (doubles x) (scopes x m)))
moditems_in x ns count n m ks js names b e s room size same d =
    let rest = gather (moditem_scopes x) m in
    let many : count ≡ length (gather (moditem_names x) m) = sym size ∙ ap length same ∙ length-map (gather (moditem_names x) m) (λ (t : Site). t.item) in
    let begun : b ≡ least (doubles x (items (gather (moditem_names x) m))) = d ∙ ap (λ (l : List ℕ). least (doubles x l)) same in
    looking_in_many (doubles x) (moditem_scopes x) (Roomed x count n) ns m ks js b (least (flat_map (doubles x) (scopes x m))) e (module_roomed x count n ns m js s room many)
    (least_append (doubles x (items (gather (moditem_names x) m))) (flat_map (doubles x) rest) ∙ ap (λ (u : Option ℕ). meet u (least (flat_map (doubles x) rest))) (sym begun))
