-- Sentences, what may follow, and depth. Assumes nothing.
use Rattle.std.specs.Prelude.{◌≡◌, ℕ, suc, ◌+◌, ◌≤◌, Bool, true, cond, List, [], ◌∷◌, ◌++◌, length}
use Rattle.grammar.specs.Symbols.{BLOCK, DO, END, ENDBLOCK, IF, REP, LEFT, RIGHT, among, Symbol}
use Rattle.grammar.specs.Trees.{Token, symbol, mark, Module, of_module}

abbrev pub symbols : List Token → List Symbol
symbols [] = []
symbols (t ∷ ts) = symbol t ∷ symbols ts

-- the items of a text whose symbols are w, from the number n on
abbrev pub items : ℕ → List Symbol → List Token
items n [] = []
items n (c ∷ w) = mark c n ∷ items (suc n) w

-- the tree m is made of exactly the items of a text
abbrev pub Made : Module → List Symbol → Type 0
Made m w = of_module m [] ≡ items 0 w

-- w is a sentence; w begins one
abbrev pub Sentence : List Symbol → Type 0
Sentence w = (m : Module) × (symbols (of_module m []) ≡ w)

abbrev pub Viable : List Symbol → Type 0
Viable w = (x : List Symbol) × Sentence (w ++ x)

-- Depth: how many symbols of a word have p.
abbrev pub count : (Symbol → Bool) → List Symbol → ℕ
count p [] = 0
count p (c ∷ w) = cond (p c) (suc (count p w)) (count p w)

abbrev pub opens : Symbol → Bool
opens c = among (LEFT ∷ BLOCK ∷ IF ∷ DO ∷ []) c

abbrev pub closes : Symbol → Bool
closes c = among (RIGHT ∷ ENDBLOCK ∷ END ∷ REP ∷ []) c

-- after the word w, n are open
abbrev pub Full : ℕ → List Symbol → Type 0
Full n w = count opens w ≡ n + count closes w

-- where n may be open, no symbol of w opens one more
abbrev pub Shallow : ℕ → List Symbol → Type 0
Shallow n w = (p : List Symbol) (c : Symbol) (q : List Symbol) → w ≡ p ++ (c ∷ q) → opens c ≡ true → Full n p → ⊥

-- The text is u and then v. The first of v can follow u in no sentence; or there is no v, and u is no sentence.
abbrev pub Stops : List Symbol → List Symbol → Type 0
Stops u [] = Sentence u → ⊥
Stops u (c ∷ v) = Viable (u ++ (c ∷ [])) → ⊥

-- the first of v can follow u, and opens one too many
abbrev pub Sinks : ℕ → List Symbol → List Symbol → Type 0
Sinks n u [] = ⊥
Sinks n u (c ∷ v) = Viable (u ++ (c ∷ [])) × (opens c ≡ true) × Full n u

-- What is to be said of the symbols w, where n may be open: they are a module; or e is the number of the first that can follow in no
-- module, or of the text's end; or e is the number of the first that opens one too many; whichever comes first.
pub data Answer : Type 0 where
  fine : Answer
  bad : ℕ → Answer
  deep : ℕ → Answer

pub record Fine (n : ℕ) (w : List Symbol) : Type 0 where
  pub sentence : Sentence w
  pub shallow : Shallow n w

pub record Bad (n : ℕ) (w : List Symbol) (e : ℕ) : Type 0 where
  pub front : List Symbol
  pub behind : List Symbol
  pub parts : w ≡ front ++ behind
  pub place : length front ≡ e
  pub viable : Viable front
  pub stops : Stops front behind
  pub shallow : Shallow n front

pub record Deep (n : ℕ) (w : List Symbol) (e : ℕ) : Type 0 where
  pub front : List Symbol
  pub behind : List Symbol
  pub parts : w ≡ front ++ behind
  pub place : length front ≡ e
  pub sinks : Sinks n front behind
  pub shallow : Shallow n front

abbrev pub Meaning : ℕ → List Symbol → Answer → Type 0
Meaning n w fine = Fine n w
Meaning n w (bad e) = Bad n w e
Meaning n w (deep e) = Deep n w e

-- THEOREMS. Every list of symbols has exactly one answer.
abbrev pub OneAnswer : Type 0
OneAnswer = (n : ℕ) (w : List Symbol) → (a : Answer) × Meaning n w a × ((b : Answer) → Meaning n w b → a ≡ b)

-- The items of a text that is a sentence have a tree, and only one.
abbrev pub OneTree : Type 0
OneTree = (w : List Symbol) → Sentence w → (m : Module) × Made m w × ((k : Module) → Made k w → m ≡ k)

-- What a tree is made of is a sentence.
abbrev pub MadeSentence : Type 0
MadeSentence = (m : Module) (w : List Symbol) → Made m w → Sentence w

-- No two trees have the same items.
abbrev pub Unique : Type 0
Unique = (m k : Module) → of_module m [] ≡ of_module k [] → m ≡ k

-- Behind symbols that begin no sentence none goes on.
abbrev pub NothingAfter : Type 0
NothingAfter = (u x : List Symbol) → (Viable u → ⊥) → Viable (u ++ x) → ⊥

-- In no front of a sentence are more closed than opened, and in a sentence as many are.
abbrev pub Balanced : Type 0
Balanced = ((w : List Symbol) → Viable w → count closes w ≤ count opens w) × ((w : List Symbol) → Sentence w → count closes w ≡ count opens w)
