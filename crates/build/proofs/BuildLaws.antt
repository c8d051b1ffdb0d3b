-- What the call answers where its checks refuse, and where they pass.
use mathlib.Core.Path.{◌≡◌, refl, sym, ap, ◌∙◌}
use mathlib.Core.Bool.{true, false}
use mathlib.Core.List.{List, [], ◌∷◌}
use mathlib.Core.Option.{none, some}
use Rattle.std.specs.Prelude.{Result, Err}
use Prim.Native.Nat.{ℕ, ◌+◌, ◌*◌, ◌≤◌, ◌<◌}
use native.Mathlib.Omega.{arith}
use borrow.Author.Tests.{lt-ltb, le-ltb}
use lib.Dec.{ltb}
use lib.ListN.{length}
use lib.Seq.{sets}
use Rattle.laws.specs.ListWrites.{sets-front}
use Rattle.answers.specs.Answers.{Answer, gives, refused, first_of}
use Rattle.answers.specs.RowLaws.{row-refuses, row-passes, row_ends, rows_refuse, rows_pass}
use Rattle.graph.specs.Runs.{Graph}
use Rattle.graph.specs.Words.{Word}
use Rattle.built.specs.Build.{build_checks, built_row, build_row, Building, building, build_as}
use Rattle.built.specs.Built.{built}
use Rattle.built.specs.Listed.{words_listed, list_bytes, list_row}
use Rattle.build.specs.Numbering.{most_nodes}
use Rattle.build.specs.Said.{past_checks}

-- what `ok_or(why)?` returns where there is none
pub none_refused : {A B E : Type 0} {why d : E} {r : Result B E} → (let given : Result A E = Err d in given ≡ Err why) → (y : E) × (r ≡ Err y) × (y ≡ d) → r ≡ Err why
none_refused {why = why} {d = d} e p = let same : d ≡ why = cc in p.1 ∙ ap Err (p.2 ∙ same)

-- ---- past the first checks
module _ (g lent : Graph) where
  abbrev refuses : ℕ → Building
  refuses k = record { answer = refused k []; nodes = lent }

  refused_by : {k : ℕ} → first_of (built_row g (length lent)) ≡ some (refused k []) → refuses k ≡ past_checks g lent
  refused_by e = ap (λ o. building o g lent) (sym e)

  pub too_many : most_nodes < length g → refuses 25 ≡ past_checks g lent
  too_many h = refused_by (row-refuses _ _ _ (lt-ltb _ _ h))

  module _ (few : length g ≤ most_nodes) where
    pub too_short : length lent < length g → refuses 11 ≡ past_checks g lent
    too_short h = refused_by (row-passes _ _ _ (le-ltb _ _ few) ∙ row-refuses _ _ _ (lt-ltb _ _ h))

    pub all-written : (n : ℕ) {after : Graph} → n ≡ length g → length g ≤ length lent → after ≡ sets lent 0 g
        → record { answer = gives (n ∷ []); nodes = after } ≡ past_checks g lent
    all-written n i room s =
        let e : first_of (built_row g (length lent)) ≡ none = row-passes _ _ _ (le-ltb _ _ few) ∙ row-passes _ _ _ (le-ltb _ _ room) ∙ row_ends in
        rw (e, i, s, sets-front lent g room)

-- ---- the whole call
module _ (list : List ℕ) (lent_work : ℕ) (lent : Graph) where
  pub checks_refuse : {r : Answer} → first_of (build_checks list lent_work) ≡ some r → record { answer = r; nodes = lent } ≡ build_as list lent_work lent
  unfolding build_as build_row
  checks_refuse e = ap (λ o. building o (built (words_listed list)) lent) (sym (rows_refuse (build_checks list lent_work) _ e))

  pub checks-pass : {x : Building} → first_of (build_checks list lent_work) ≡ none → x ≡ past_checks (built (words_listed list)) lent → x ≡ build_as list lent_work lent
  unfolding build_as build_row
  checks-pass e h = h ∙ ap (λ o. building o (built (words_listed list)) lent) (sym (rows_pass (build_checks list lent_work) _ e))

  pub list-refuses : {r : Answer} → first_of (list_row list) ≡ some r → first_of (build_checks list lent_work) ≡ some r
  list-refuses e = rows_refuse (list_row list) _ e

  module _ (sound : first_of (list_row list) ≡ none) where
    pub work-short : ltb lent_work (8 * length list + 64) ≡ true → first_of (build_checks list lent_work) ≡ some (refused 11 [])
    work-short e = rows_pass (list_row list) _ sound ∙ row-refuses _ _ _ e

    pub work-enough : ltb lent_work (8 * length list + 64) ≡ false → first_of (build_checks list lent_work) ≡ none
    work-enough e = rows_pass (list_row list) _ sound ∙ row-passes _ _ _ e ∙ row_ends

-- a list of no bytes is that of no words
pub no_bytes : (list : List ℕ) (ws : List Word) → list ≡ list_bytes ws → length list ≡ 0 → ws ≡ []
no_bytes list [] e z = refl
no_bytes list (w ∷ ws) e z = let l = ap length e in absurd (omega arith)
