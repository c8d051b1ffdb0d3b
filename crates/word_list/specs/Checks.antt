-- What the checks of a list answer.
use Rattle.std.specs.Borrow.{Bor}
use Rattle.std.specs.Prelude.{◌≡◌, false, ◌||◌, List, [], ◌∷◌, ◌++◌, ℕ, suc, eqb, ltb, length, Result, Option, Some, None}
use Rattle.std.proofs.Math.Option.{Option as Maybe, some}
use Rattle.laws.specs.Lists.{some_of}
use Rattle.answers.specs.Answers.{Answer, refused, Refusal, refusing, refusal_of, first_of}
use Rattle.graph.specs.Words.{Word}
use Rattle.built.specs.Listed.{list_row, rows_ahead, no_tile}
use Rattle.word_list.specs.declared.checking.ListRefusal.{ListRefusal}
use Rattle.word_list.specs.declared.checking.ListRefusal.TheVariants.{BadWord, NotAbove}

-- from document 02, C-18: "32 for a length not 1 to 64, a list that ends inside a word or a tile not 1 to 63; 33 for a word not above the one
-- before"
abbrev pub list_why : ListRefusal → Refusal
list_why BadWord = refusing 32 []
list_why NotAbove = refusing 33 []

abbrev pub list_refusal : {A : Type 0} → Result A ListRefusal → Maybe Answer
list_refusal r = refusal_of list_why r

-- it is what the list's row of checks answers
abbrev pub ChecksAs : {A : Type 0} → List ℕ → Result A ListRefusal → Type 0
ChecksAs l r = first_of (list_row l) ≡ list_refusal r

-- a list begins with a word that passes the checks of 32, and with what follows it
pub record IsWord (l : List ℕ) (w : Word) (after : List ℕ) : Type 0 where
  pub bytes : l ≡ length w ∷ (w ++ after)
  pub length-fits : (eqb (length w) 0 || ltb 64 (length w)) ≡ false
  pub tiles : some_of no_tile w ≡ false

-- or it is refused by them whatever the word before it is
abbrev pub NoWord : List ℕ → Type 0
NoWord l = (left : ℕ) (before : Word) → first_of (rows_ahead (suc left) before l) ≡ some (refused 32 [])

abbrev pub Found : List ℕ → Option (Bor (List ℕ) × Bor (List ℕ)) → Type 0
Found l None = NoWord l
Found l (Some r) = IsWord l r.0.now r.1.now
