-- A list marked word by word. The idea: the words passed and those left are the lexicon's, and the place reached is that after those passed.
use mathlib.Core.Path.{◌≡◌, refl, sym, ap, ap₂, ◌∙◌, subst}
use mathlib.Core.List.{List, [], ◌∷◌}
use Prim.Native.Nat.{ℕ, suc, ◌+◌, ◌≤◌, ◌<◌}
use native.Mathlib.Omega.{arith}
use lib.ListN.{length, get_or, set}
use lib.Seq.{get_or-set_same, get_or-set_other}
use Rattle.graph.specs.Words.{Word}
use Rattle.built.specs.Listed.{list_bytes}
use Rattle.word_list.specs.Words.{rejoined, place_after, last_of, Back, MarkedAs}
use Rattle.word_list.specs.WordsLaws.{bytes-length, word-here}

-- the last word passed stands at a place
abbrev LastAt : ℕ → List Word → Type 0
LastAt p [] = Unit
LastAt p (v ∷ us) = p ≡ place_after us

-- the places of the words passed are marked, and that after them is not yet
abbrev BackSoFar : List ℕ → List Word → Type 0
BackSoFar m [] = Unit
BackSoFar m (v ∷ us) = Back m us

pub record Marking (ws : List Word) (m : List ℕ) (last before at : ℕ) : Type 0 where
  pub passed : List Word
  pub rest : List Word
  pub all : rejoined passed rest ≡ ws
  pub place : at ≡ place_after passed
  pub size : before ≡ length (last_of passed)
  pub prior : LastAt last passed
  pub back : BackSoFar m passed

pub marking_begins : (ws : List Word) (m : List ℕ) → Marking ws m 0 0 0
unfolding rejoined place_after
marking_begins ws m = record { passed = []; rest = ws; all = refl; place = refl; size = refl; prior = tt; back = tt }

-- ---- the way back with a mark more
back-stays : (m : List ℕ) (us : List Word) (q x : ℕ) → place_after us < q → Back m us → Back (set m q x) us
unfolding place_after
back-stays m [] q x h b = get_or-set_other m q 0 x 0 (λ e. omega arith) ∙ b
back-stays m (v ∷ us) q x h b =
    (get_or-set_other m q (place_after (v ∷ us)) x 0 (λ e. omega arith) ∙ b.0, back-stays m us q x (omega arith) b.1)

back_more : (m : List ℕ) (us : List Word) (x : ℕ) → place_after us < length m → x ≡ length (last_of us) → BackSoFar m us
    → Back (set m (place_after us) x) us
unfolding place_after
back_more m [] x h e b = get_or-set_same m 0 x 0 h ∙ e
back_more m (v ∷ us) x h e b =
    (get_or-set_same m (place_after (v ∷ us)) x 0 h ∙ e, back-stays m us (place_after (v ∷ us)) x (omega arith) b)

-- ---- a word more
word-there : (us rest : List Word) (l : List ℕ) → l ≡ list_bytes (rejoined us rest) → place_after us < length l
    → (w : Word) × (vs : List Word) × (rest ≡ w ∷ vs)
word-there us [] l e h = absurd (let n = ap length e ∙ bytes-length us [] in omega arith)
word-there us (w ∷ vs) l e h = (w, vs, refl)

module _ {ws : List Word} {marks : List ℕ} {last before at : ℕ} {l : List ℕ} (e : l ≡ list_bytes ws) (m : Marking ws marks last before at) where
  module _ (h : at < length l) where
    abbrev found : (v : Word) × (vs : List Word) × (m.rest ≡ v ∷ vs)
    found = let p = m.place in word-there m.passed m.rest l (e ∙ ap list_bytes (sym m.all)) (omega arith)

    split-here : rejoined m.passed (found.0 ∷ found.1) ≡ ws
    split-here = ap (rejoined m.passed) (sym found.2) ∙ m.all

    length-here : get_or l at 0 ≡ length found.0
    length-here = ap (λ k. get_or l k 0) m.place ∙ (word-here m.passed found.0 found.1 l (e ∙ ap list_bytes (sym split-here))).0

    pub word-inside : at + suc (get_or l at 0) ≤ length l
    word-inside =
        let p = m.place in
        let n = length-here in
        let k = (word-here m.passed found.0 found.1 l (e ∙ ap list_bytes (sym split-here))).2 in omega arith

    pub Marking-next : length l ≤ length marks → Marking ws (set marks at before) at (get_or l at 0) (at + (1 + get_or l at 0))
    unfolding rejoined place_after
    Marking-next room =
        let p = m.place in
        let n = length-here in
        record {
          passed = found.0 ∷ m.passed;
          rest = found.1;
          all = split-here;
          place = omega arith;
          size = n;
          prior = p;
          back = rw p (back_more marks m.passed before (omega arith) m.size m.back);
        }

-- ---- no word left
all-passed : (us rest : List Word) (l : List ℕ) → l ≡ list_bytes (rejoined us rest) → 0 < length l → length l ≤ place_after us
    → (v : Word) × (vs : List Word) × (us ≡ v ∷ vs) × (rest ≡ [])
unfolding place_after
all-passed [] rest l e some h = absurd (omega arith)
all-passed (v ∷ vs) [] l e some h = (v, vs, refl, refl)
all-passed (v ∷ vs) (w ∷ rest) l e some h = absurd (let n = ap length e ∙ bytes-length (v ∷ vs) (w ∷ rest) in omega arith)

pub marking_ends : {ws : List Word} {marks : List ℕ} {last before at : ℕ} {l : List ℕ} → l ≡ list_bytes ws → 0 < length l → length l ≤ at
    → Marking ws marks last before at → MarkedAs ws marks last
unfolding rejoined
marking_ends {ws} {marks} {last} {before} {at} {l} e some h m =
    let p = m.place in
    let f = all-passed m.passed m.rest l (e ∙ ap list_bytes (sym m.all)) some (omega arith) in
    record {
      before = f.1;
      last = f.0;
      all = ap₂ rejoined (sym f.2) (sym f.3) ∙ m.all;
      place = subst (LastAt last) f.2 m.prior;
      back = subst (BackSoFar marks) f.2 m.back;
    }
