-- The parameters and locals of a procedure beyond what is allowed. Assumes nothing.
use Rattle.std.proofs.Common.{◌≡◌, ℕ, ◌+◌, ◌-◌, ◌≤◌, List, [], ◌++◌, map, length, take, flat_map, option_to_list, slice_get, ap, ◌∙◌, append-nil, arith}
use Rattle.nodes.specs.declared.Node.{Node}
use Rattle.statics.specs.Scopes.{Text}
use Rattle.statics.specs.Order.{InBody}
use Rattle.statics.specs.Blocks.{blocks}
use Rattle.statics.specs.DeclaredTwice.{block_names}
use Rattle.statics.specs.Modules.{parameters}
use Rattle.statics.specs.Crowds.{Allowance}
use Rattle.statics.specs.JudgeLimits.{beyond, least}
use Rattle.frames.proofs.Counts.{body_names_few, room_fits}
use Rattle.scopes.specs.declared.Declared.{Declared}
use Rattle.frames.specs.Frames.{Behind, site_means, parameter_site}
use Rattle.limits.specs.declared.Procedure.{Procedure}
use Rattle.limits.proofs.Least.{meet}
use Rattle.limits.proofs.Parts.{Parts, given}
use Rattle.limits.proofs.Tables.{items_of, fresh_items}

module _ (x : Text) (ns : List Node) (count n : ℕ) (p : Procedure) (ss : List (List ℕ)) (allowed : List Allowance) (w : Parts x ns count n p ss allowed) where
  -- the names of the parameters and of all blocks
  abbrev pub whole : List ℕ
  whole = given x w.ps ++ blocks (block_names x) w.b

  pub all_beyond : least (flat_map beyond allowed) ≡ meet (slice_get (given x w.ps) 8) (slice_get whole 64)
  all_beyond =
      ap (λ (bs : List Allowance). least (flat_map beyond bs)) w.may
      ∙ ap (λ (us : List ℕ). least (option_to_list (slice_get (given x w.ps) 8) ++ us)) (append-nil (option_to_list (slice_get whole 64)))

  -- the table behind a module's names, where the parameters were put first, and then the locals behind them
  module _ (old mid new : List Declared) (end all : ℕ) where
    pub record Filled : Type 0 where
      pub few : end ≤ length new
      pub most : all ≤ length new
      pub front : items_of (take end new) ≡ given x w.ps
      pub both : items_of (take all new) ≡ whole

    pub filled : count ≤ n → length old ≡ n - count → length mid ≡ length old → length new ≡ length mid → Behind (site_means x []) (map parameter_site (parameters x w.ps)) 0 old end mid → Behind (λ d. d.item) (blocks (block_names x) w.b) end mid all new → take end new ≡ take end mid → Filled
    filled within size len len' first second same =
        let room : count + length (parameters x w.ps) + length (blocks (block_names x) w.b) ≤ n = room_fits InBody (blocks (block_names x)) (body_names_few x) w.b (count + length (parameters x w.ps)) n w.room in
        let y = fresh_items x parameter_site (parameters x w.ps) 0 old end mid (omega (arith, within, size, w.fits)) first in
        let z = second (omega (arith, within, size, len, room, y.0)) in
        record {
          few = omega (arith, within, size, len, len', w.fits, y.0);
          most = omega (arith, within, size, len, len', room, y.0, z.0);
          front = ap items_of same ∙ y.1;
          both = z.1 ∙ ap (λ us. us ++ blocks (block_names x) w.b) y.1;
        }
