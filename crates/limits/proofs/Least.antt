-- The least of some numbers, put together from parts. Assumes nothing.
use Rattle.std.proofs.Common.{◌≡◌, ℕ, cond, nat_lt, List, [], ◌∷◌, ◌++◌, flat_map, Option, Some, None, option_to_list, refl, ap, sym, ◌∙◌, arith}
use Rattle.std.proofs.lemmas.Grind.{flat_map-append, common_steps}
use Rattle.statics.specs.JudgeLimits.{least}

-- the lesser of two, where they are there
abbrev pub meet : Option ℕ → Option ℕ → Option ℕ
meet a b = least (option_to_list a ++ option_to_list b)

lesser_assoc : (a b c : ℕ) → cond (nat_lt (cond (nat_lt a b) a b) c) (cond (nat_lt a b) a b) c ≡ cond (nat_lt a (cond (nat_lt b c) b c)) a (cond (nat_lt b c) b c)
lesser_assoc a b c = grind (arith, common_steps)

lesser_comm : (a b : ℕ) → cond (nat_lt a b) a b ≡ cond (nat_lt b a) b a
lesser_comm a b = grind (arith, common_steps)

pub meet_none : (a : Option ℕ) → meet None a ≡ a
meet_none None = refl
meet_none (Some a) = refl

pub meet_comm : (a b : Option ℕ) → meet a b ≡ meet b a
meet_comm None None = refl
meet_comm None (Some b) = refl
meet_comm (Some a) None = refl
meet_comm (Some a) (Some b) = ap Some (lesser_comm a b)

pub meet_assoc : (a b c : Option ℕ) → meet (meet a b) c ≡ meet a (meet b c)
meet_assoc None b c = ap (λ (o : Option ℕ). meet o c) (meet_none b) ∙ sym (meet_none (meet b c))
meet_assoc (Some a) None c = ap (λ (o : Option ℕ). meet (Some a) o) (sym (meet_none c))
meet_assoc (Some a) (Some b) None = refl
meet_assoc (Some a) (Some b) (Some c) = ap Some (lesser_assoc a b c)

least_cons : (a : ℕ) (o : List ℕ) → least (a ∷ o) ≡ meet (Some a) (least o)
least_cons a [] = refl
least_cons a (b ∷ o) = refl

pub least_append : (ms ns : List ℕ) → least (ms ++ ns) ≡ meet (least ms) (least ns)
least_append [] ns = sym (meet_none (least ns))
least_append (a ∷ ms) ns =
    least_cons a (ms ++ ns)
    ∙ ap (meet (Some a)) (least_append ms ns)
    ∙ sym (meet_assoc (Some a) (least ms) (least ns))
    ∙ ap (λ (o : Option ℕ). meet o (least ns)) (sym (least_cons a ms))

-- what g has of some, and then of more
pub least_parts : {B : Type 0} (g : B → List ℕ) (us vs : List B) → least (flat_map g (us ++ vs)) ≡ meet (least (flat_map g us)) (least (flat_map g vs))
least_parts g us vs = ap least (flat_map-append g us vs) ∙ least_append (flat_map g us) (flat_map g vs)
