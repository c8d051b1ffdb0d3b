-- The lines by the walk are the words from the start, in order, with their numbers. The idea: on a graph that counts, the walk names each
-- word where the buffer has room for it, and is refused by 16 where it has not.
use mathlib.Core.Path.{◌≡◌, refl, sym, ap, ◌∙◌, subst}
use mathlib.Core.Bool.{true, false}
use mathlib.Core.List.{List, [], ◌∷◌, ◌++◌, append-nil}
use Prim.Native.Nat.{ℕ, suc, ◌+◌, ◌≤◌, ◌<◌}
use native.Mathlib.Nat.{zero-add, add-zero}
use native.Mathlib.Omega.{arith}
use lib.Dec.{eqb, ltb}
use borrow.Author.Tests.{ltb-true, ltb-false}
use lib.ListN.{length, get_or}
use Rattle.laws.specs.Cases.{split}
use Rattle.answers.specs.Answers.{Answer, gives, refused}
use Rattle.node.specs.Nodes.{kbwg}
use Rattle.graph.specs.Runs.{Graph, start_node}
use Rattle.graph.specs.Words.{Word, words, count}
use Rattle.graph.specs.ChecksLaws.{fit}
use Rattle.graph.specs.Counting.{Counts}
use Rattle.lookup.specs.Walks.{word_by_index}
use Rattle.lookup.specs.GraphLent.{GraphLent}
use Rattle.numbers.proofs.LentNumbers.{named-lent, cut-lent}
use Rattle.listing.specs.Lines.{line, refusal_line}
use Rattle.listing.specs.Wordlist.{start_words, most_tiles, listed}
use Rattle.listing.specs.Blocks.{NumberWalk, line_for, goes_on, lines_of}

-- ---- the walk names the words
-- what the walk leaves of a word, with room for 256 tiles
pub record LineNames (x : Word × Answer) (w : Word) : Type 0 where
  pub short : length w ≤ most_tiles → x ≡ (w, gives (length w ∷ []))
  pub long : most_tiles < length w → x.1 ≡ refused 16 []

module _ (limit : ℕ) (g : Graph) (c : Counts limit g) (nodes counted : List ℕ) (is : GraphLent g nodes counted) where
  pub names : (p i : ℕ) → p < length g → i < count kbwg g p → LineNames (word_by_index counted nodes most_tiles p i) (get_or (words kbwg g p) i [])
  names p i h k =
      record {
        short = named-lent limit g c nodes counted is p i most_tiles h k;
        long = λ l. ap (λ x. x.1) (cut-lent limit g c nodes counted is p i most_tiles h k l);
      }

-- ---- so the lines are those of the words
line-short : (walk : NumberWalk) (i : ℕ) (w : Word) (l : List ℕ) → walk i ≡ (w, gives (length w ∷ []))
    → line_for i (walk i).0 (walk i).1 ++ elim (goes_on (walk i).1) [ true ↦ l | false ↦ [] ] ≡ line i w ++ l
line-short walk i w l e = rw e

line-long : (walk : NumberWalk) (i : ℕ) (l : List ℕ) → (walk i).1 ≡ refused 16 []
    → line_for i (walk i).0 (walk i).1 ++ elim (goes_on (walk i).1) [ true ↦ l | false ↦ [] ] ≡ refusal_line 16
line-long walk i l e = rw e (append-nil (refusal_line 16))

pub lines-listed : (walk : NumberWalk) (ws : List Word) (i : ℕ) → ((j : ℕ) → j < length ws → LineNames (walk (i + j)) (get_or ws j []))
    → lines_of walk i (length ws) ≡ listed i ws
unfolding lines_of listed
lines-listed walk [] i f = refl
lines-listed walk (w ∷ ws) i f =
    let first : LineNames (walk i) w = subst (λ n. LineNames (walk n) w) (add-zero i) (f 0 (omega arith)) in
    let at : (j : ℕ) → i + suc j ≡ suc i + j = λ j. omega arith in
    let rest = lines-listed walk ws (suc i) (λ j h. subst (λ n. LineNames (walk n) (get_or ws j [])) (at j) (f (suc j) (omega arith))) in
    let more = lines_of walk (suc i) (length ws) in
    split (ltb most_tiles (length w))
    (λ t. rw (t, listed) (line-long walk i more (first.long (omega (arith, ltb-true _ (length w) t)))))
    (λ t. rw (t, listed) (line-short walk i w more (first.short (omega (arith, ltb-false _ (length w) t))) ∙ ap (line i w ++◌) rest))

-- the words from the start: none where its arc is 0
pub start-listed : (limit : ℕ) (g : Graph) → Counts limit g → (nodes counted : List ℕ) → GraphLent g nodes counted
    → lines_of (word_by_index counted nodes most_tiles (start_node g 0)) 0 (length (start_words g)) ≡ listed 0 (start_words g)
unfolding start_words
start-listed limit g c nodes counted is =
    let walk = word_by_index counted nodes most_tiles (start_node g 0) in
    let ws = words kbwg g (start_node g 0) in
    let h = (fit g c.fit).steps.arcs 0 (omega (arith, (fit g c.fit).two)) in
    split (eqb (start_node g 0) 0)
    (λ t. rw (t, start_words) (lines-listed walk [] 0 (λ j k. absurd (omega arith))))
    (λ t. rw (t, start_words) (lines-listed walk ws 0
    (λ j k. subst (λ n. LineNames (walk n) (get_or ws j [])) (sym (zero-add j)) (names limit g c nodes counted is (start_node g 0) j h k))))
