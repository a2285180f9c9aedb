-- The modes of the components of a record mode, from those of the code.
use Rattle.std.proofs.Common.{◌≡◌, ℕ, Bool, true, false, cond, List, [], ◌∷◌, map, Option, option_map, slice_get, None, Some, refl, ap, ◌∙◌, sym, Bor}
use Rattle.std.specs.List.{filter}
use Rattle.std.proofs.lemmas.Option.{slice_get-map}
use Rattle.statics.specs.Scopes as rules
use Rattle.statics.specs.Modes.{Word}
use Rattle.modes.specs.Meanings.{mode_means}
use Rattle.scopes.specs.Meanings.{component_means}
use Rattle.scopes.specs.declared.Component.{Component}

either : {X Y Z : Type 0} (g : Y → Z) (f : X → Y) (b : Bool) (x : X) (xs : List X) (ys : List Y) → map g ys ≡ map (λ y. g (f y)) xs → map g (cond b (f x ∷ ys) ys) ≡ map (λ y. g (f y)) (cond b (x ∷ xs) xs)
either g f true x xs ys same = ap (λ l. g (f x) ∷ l) same
either g f false x xs ys same = same

filter_mapped : {X Y Z : Type 0} (g : Y → Z) (f : X → Y) (t : Y → Bool) (xs : List X) → map g (filter t (map f xs)) ≡ map (λ x. g (f x)) (filter (λ x. t (f x)) xs)
filter_mapped g f t [] = refl
filter_mapped g f t (x ∷ xs) = either g f (t (f x)) x _ _ (filter_mapped g f t xs)

-- h of what came as a reference
read : {X Z : Type 0} (h : X → Z) (r : Option (Bor X)) → option_map (λ y. h y.now) r ≡ option_map h (option_map (λ y. y.now) r)
read h None = refl
read h (Some y) = refl

-- whether a component is of the record mode r
abbrev pub is_of : rules.Text → Word → Component → Bool
is_of x r c = rules.same_word (x.word c.owner) r

pub record_modes_are : (x : rules.Text) (cs : List Component) (r : Word) → rules.record_modes (map (component_means x) cs) r ≡ map (λ c. mode_means x c.mode) (filter (is_of x r) cs)
record_modes_are x cs r = filter_mapped (λ c. c.mode) (component_means x) (λ c. rules.same_word c.owner r) cs

-- the mode of the component at k, which came as a reference
pub record_mode_at : (x : rules.Text) (cs : List Component) (r : Word) (k : ℕ) (o : Option (Bor Component)) → option_map (λ y. y.now) o ≡ slice_get (filter (is_of x r) cs) k
    → option_map (λ y. mode_means x y.now.mode) o ≡ slice_get (rules.record_modes (map (component_means x) cs) r) k
record_mode_at x cs r k o is =
    read (λ c. mode_means x c.mode) o ∙ ap (option_map (λ c. mode_means x c.mode)) is
    ∙ sym (slice_get-map (λ c. mode_means x c.mode) (filter (is_of x r) cs) k)
    ∙ sym (ap (λ l. slice_get l k) (record_modes_are x cs r))
