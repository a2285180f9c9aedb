-- The stages of the rules one after the other, and the environment in which each is judged. Assumes nothing.
use Rattle.std.proofs.Common.{◌≡◌, ℕ, ◌≤◌, List, ◌++◌, Ok, Err, Result, append-nil, arith, length, length-take-le, map, take, drop, sym, ap, subst, ◌∙◌}
use Rattle.std.proofs.lemmas.List.{drop_all}
use Rattle.grammar.specs.Trees.{Module}
use Rattle.statics.specs.declared.Refusal.{Refusal}
use Rattle.statics.specs.declared.Refusal.TheVariants.{TooManyPlaces}
use Rattle.statics.specs.Scopes.{Text, Env}
use Rattle.statics.specs.Written.{gather}
use Rattle.statics.specs.Modules.{module_env}
use Rattle.statics.specs.Space.{charges, moditem_charges}
use Rattle.statics.specs.JudgeExpressions.{then}
use Rattle.statics.specs.JudgeModules.{judge_module}
use Rattle.statics.specs.JudgeLimits.{judge_twice, judge_space, judge_locals, judge_static, passing, report}
use Rattle.texts.specs.Facts.{facts}
use Rattle.scopes.specs.declared.Declared.{Declared}
use Rattle.scopes.specs.Meanings.{Answers}
use Rattle.frames.specs.declared.Frame.{Frame}
use Rattle.frames.specs.Frames.{frame_means}
use Rattle.scopes.proofs.Following.{stops, goes}
use Rattle.blocks.proofs.Framing.{same_frame}
use Rattle.checker.specs.Filled.{Filled}
use Rattle.inventory.proofs.Whole.{whole}

-- what the rules judge of a module goes on from stage to stage
module _ (x : Text) (m : Module) where
  pub twice_wrong : (f : Refusal) → judge_twice x m ≡ Err f → judge_static x m ≡ Err f
  twice_wrong f e = stops (judge_twice x m) (λ a. then (judge_module x m) (λ b. then (judge_space x m) (λ c. judge_locals x m))) f e

  pub none_twice : judge_twice x m ≡ Ok tt → judge_static x m ≡ then (judge_module x m) (λ b. then (judge_space x m) (λ c. judge_locals x m))
  none_twice e = goes (judge_twice x m) (λ a. then (judge_module x m) (λ b. then (judge_space x m) (λ c. judge_locals x m))) tt e

  pub module_wrong : (f : Refusal) → judge_twice x m ≡ Ok tt → judge_module x m ≡ Err f → judge_static x m ≡ Err f
  module_wrong f e h = none_twice e ∙ stops (judge_module x m) (λ b. then (judge_space x m) (λ c. judge_locals x m)) f h

  pub module_right : judge_twice x m ≡ Ok tt → judge_module x m ≡ Ok tt → judge_static x m ≡ then (judge_space x m) (λ c. judge_locals x m)
  module_right e h = none_twice e ∙ goes (judge_module x m) (λ b. then (judge_space x m) (λ c. judge_locals x m)) tt h

  pub space_wrong : (f : Refusal) → judge_twice x m ≡ Ok tt → judge_module x m ≡ Ok tt → judge_space x m ≡ Err f → judge_static x m ≡ Err f
  space_wrong f e h s = module_right e h ∙ stops (judge_space x m) (λ c. judge_locals x m) f s

  pub space_right : judge_twice x m ≡ Ok tt → judge_module x m ≡ Ok tt → judge_space x m ≡ Ok tt → judge_static x m ≡ judge_locals x m
  space_right e h s = module_right e h ∙ goes (judge_space x m) (λ c. judge_locals x m) tt s

module _ (f : Frame) (m : Module) (old : List Declared) where
  pub counted : Filled f m old → f.count ≡ length (take f.count old)
  counted h = sym (length-take-le f.count old h.few)

  -- a stage puts names behind those of the module only
  pub in_module : (new : List Declared) → take f.count new ≡ take f.count old → Filled f m old → frame_means f new ≡ module_env (facts f.text) m
  in_module new front h = same_frame f new old front ∙ whole f old m (h.even ∙ counted h) h.none h.named h.parts

-- the places, as they are judged in an environment
module _ (m : Module) (n : ℕ) (r : Result (Unit {0}) Refusal) where
  abbrev pub Spaced : Env → Type 0
  Spaced Γ = length (gather (moditem_charges Γ.text Γ.parts) m) ≤ n → Answers (λ u. tt) r (report TooManyPlaces (passing 4096 0 (gather (moditem_charges Γ.text Γ.parts) m)))

  pub spaced : (x : Text) (Γ : Env) → Γ ≡ module_env x m → Spaced Γ → length (charges x m) ≤ n → Answers (λ u. tt) r (judge_space x m)
  spaced x Γ e s big = subst Spaced e s big

-- a table that was filled from its end: what stands there is what was put
module _ {T U : Type 0} (f : T → U) (us : List U) (old new : List T) (start : ℕ) where
  pub put_whole : map f (drop start new) ≡ us ++ map f (drop (length old) old) → map f (drop start new) ≡ us
  put_whole e = e ∙ ap (λ (ts : List T). us ++ map f ts) (drop_all (length old) old (omega arith)) ∙ append-nil us
