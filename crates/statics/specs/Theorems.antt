-- What is proved. Assumes nothing.
use Rattle.std.specs.Prelude.{◌≡◌, ℕ, ◌<◌, true, List, length, Result}
use Rattle.statics.specs.declared.Refusal.{Refusal}
use Rattle.grammar.specs.declared.Symbol.{Symbol}
use Rattle.grammar.specs.Sentences.{Made}
use Rattle.grammar.specs.Trees.{Expr, Condition, Body, Module}
use Rattle.statics.specs.Modes.{Word, Mode, Thing, Offers}
use Rattle.statics.specs.Laws.{Verdict, Clean}
use Rattle.statics.specs.Scopes.{Text, same_word, Env}
use Rattle.statics.specs.Expressions.{expr, condition}
use Rattle.statics.specs.Statements.{a_body}
use Rattle.statics.specs.Modules.{module_wrongs}
use Rattle.statics.specs.Order.{In, InCondition, InBody, InModule}
use Rattle.statics.specs.JudgeExpressions.{judge, judge_condition}
use Rattle.statics.specs.JudgeStatements.{judge_body}
use Rattle.statics.specs.JudgeModules.{judge_module}
use Rattle.statics.specs.Stages.{Staged, stages, Static, all_moved, moved}
use Rattle.statics.specs.JudgeLimits.{judge_static}

-- What is judged of an expression is the verdict of the rules.
abbrev pub ExpressionsRight : Type 0
ExpressionsRight = (n : ℕ) (Γ : Env) (e : Expr n) (lo hi : ℕ) → In lo e hi → Verdict (expr Γ e).has (expr Γ e).wrong (judge Γ e)

abbrev pub ConditionsRight : Type 0
ConditionsRight = (Γ : Env) (c : Condition) (lo hi : ℕ) → InCondition lo c hi → Verdict (Clean (condition Γ c)) (condition Γ c) (judge_condition Γ c)

abbrev pub StatementsRight : Type 0
StatementsRight = (Γ : Env) (b : Body) (lo hi : ℕ) → InBody lo b hi → Verdict (Clean (a_body Γ b)) (a_body Γ b) (judge_body Γ b)

abbrev pub ModulesRight : Type 0
ModulesRight = (x : Text) (m : Module) (lo hi : ℕ) → InModule lo m hi → Verdict (Clean (module_wrongs x m)) (module_wrongs x m) (judge_module x m)

-- A module whose tree is made of the items of a text has exactly one static verdict: what is judged of it.
abbrev pub StaticRight : Type 0
StaticRight = (x : Text) (m : Module) (w : List Symbol) → Made m w → Static x m (judge_static x m) × ((r : Result (Unit {0}) Refusal) → Static x m r → r ≡ judge_static x m)

-- The items of such a tree lie in the order of the text, none of them beyond its end.
abbrev pub InOrder : Type 0
InOrder = (m : Module) (w : List Symbol) → Made m w → InModule 0 m (length w)

-- What something can be brought to, it is brought to by one number of reads.
abbrev pub OneReading : Type 0
OneReading = (t : Thing) (m : Mode) (k l : ℕ) → Offers t m k → Offers t m l → k ≡ l

-- The test of words passes exactly on equal ones.
abbrev pub WordsRight : Type 0
WordsRight = (v w : Word) → (same_word v w ≡ true → v ≡ w) × (v ≡ w → same_word v w ≡ true)

-- With places g that grow with the items, the one answer is that of the judging, at the moved place.
abbrev pub MovingRight : Type 0
MovingRight = (g : ℕ → ℕ) → ((a b : ℕ) → a < b → g a < g b) → (x : Text) (m : Module) (w : List Symbol) → Made m w → Staged (all_moved g (stages x m)) (moved g (judge_static x m)) × ((r : Result (Unit {0}) Refusal) → Staged (all_moved g (stages x m)) r → r ≡ moved g (judge_static x m))
