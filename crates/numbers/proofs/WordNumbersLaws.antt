-- Every graph that counts and ascends is numbered so, from every node above 0; and counting's contract gives the premises.
use Rattle.std.specs.Prelude.{◌≡◌, refl, true, ℕ, zero, suc, ◌≤◌, ◌<◌, length, get_or, take, drop}
use Rattle.std.proofs.Common.{sym, ap, arith, take_at, length-take-le}
use mathlib.Core.List.Memᴰ
use mathlib.Core.List.{List, [], ◌∷◌, Memᴰ}
use Rattle.laws.specs.Lists.{all_mem}
use Rattle.laws.specs.Members.{at_in}
use Rattle.answers.specs.Answers.{Answer, gives, nothing}
use Rattle.answers.specs.RowLaws.{row-never_gives, rows-passed}
use Rattle.node.specs.Nodes.{kbwg}
use Rattle.graph.specs.Runs.{Graph, ascends}
use Rattle.graph.specs.Words.{Word, words, count}
use Rattle.graph.specs.Order.{◌≺◌, Ascending}
use Rattle.graph.specs.Checks.{graph_row}
use Rattle.graph.specs.Counting.{counts, count_row, IsCounted, unfit, all, Counts}
use Rattle.graph.proofs.WordsAscend.{≺-differ, words_ascend}
use Rattle.graph.proofs.WordsEquationLaws.{words-equation}
use Rattle.lookup.specs.Steps.{lent_part}
use Rattle.lookup.specs.Walks.{word_index}
use Rattle.laws.specs.Tables.{table-length}
use Rattle.lookup.specs.GraphLent.{GraphLent, count_at}
use Rattle.numbers.proofs.LentNumbers.{walk-lent, named-lent, none_lent}
use Rattle.numbers.proofs.ByWord.{IndexIs, number, no_word, indexed}
use Rattle.numbers.specs.Walkable.{Walkable}
use Rattle.numbers.specs.WordNumbers.{word_at, WordNumbers}

once-only : (l : List Word) → Ascending l → (i j : ℕ) → i < length l → j < length l → get_or l i [] ≡ get_or l j [] → i ≡ j
once-only [] a i j h k e = absurd (omega arith)
once-only (w ∷ l) a zero zero h k e = refl
once-only (w ∷ l) a zero (suc j) h k e = absurd (≺-differ (all_mem (w ≺◌) l _ a.0 (at_in l j [] (omega arith))) e)
once-only (w ∷ l) a (suc i) zero h k e = absurd (≺-differ (all_mem (w ≺◌) l _ a.0 (at_in l i [] (omega arith))) (sym e))
once-only (w ∷ l) a (suc i) (suc j) h k e = ap suc (once-only l a.1 i j (omega arith) (omega arith) e)

module _ (limit : ℕ) (g : Graph) (c : Counts limit g) (up : ascends kbwg g ≡ true) (nodes counted : List ℕ) (is : GraphLent g nodes counted) where
  walk : Walkable g (lent_part nodes) (lent_part counted)
  walk = walk-lent limit g c nodes counted is

  abbrev Index : ℕ → Word → Answer → Type 0
  Index p w x = IndexIs g (lent_part nodes) (lent_part counted) walk up limit p w x

  index_of : (p : ℕ) → 0 < p → p < length g → (w : Word) → Index p w (word_index limit nodes counted p w)
  unfolding word_index
  index_of p z h w = indexed g (lent_part nodes) (lent_part counted) walk up limit w p h (omega arith) (let f = c.few p h in omega arith)

  back : (p i : ℕ) → i < count kbwg g p → {x : Answer} → Index p (word_at g p i) x → x ≡ gives (i ∷ [])
  back p i h (number {i = j} l e) = ap (λ k. gives (k ∷ [])) (once-only (words kbwg g p) (words_ascend kbwg g up p) j i l h e)
  back p i h (no_word n) = absurd (n (at_in (words kbwg g p) i [] h))

  other : (p : ℕ) (w : Word) → (Memᴰ w (words kbwg g p) → ⊥) → {x : Answer} → Index p w x → x ≡ nothing
  other p w n (number {i = j} l e) = absurd (n (Memᴰ.cast (sym e) (at_in (words kbwg g p) j [] l)))
  other p w n (no_word m) = refl

  pub numbered : (p : ℕ) → 0 < p → p < length g → WordNumbers limit g nodes counted p
  numbered p z h =
      let e = (count_at g nodes counted is p h).1 in
      record {
        equation = words-equation kbwg g p (walk.clear p);
        count-is = e;
        named = λ i room k r. named-lent limit g c nodes counted is p i room h (rw e at k) r;
        ascending = words_ascend kbwg g up p;
        given_back = λ i k. back p i (rw e at k) (index_of p z h (word_at g p i));
        other-words = λ w n. other p w n (index_of p z h w);
        other-numbers = λ i room k. none_lent limit g c nodes counted is p i room h (rw e at k);
      }

-- ---- "counts where counting its N nodes, with lists long enough, gives none"
pub counted-lent : (limit : ℕ) (g : Graph) (before after : List ℕ) (lent_work : ℕ) → IsCounted limit g before lent_work (gives []) after
    → Counts limit g × (take (length g) after ≡ counts g)
counted-lent limit g before after lent_work (unfit e) = row-never_gives (count_row g (length before) lent_work) e
counted-lent limit g before after lent_work (all e l f) = (
  record { fit = rows-passed (graph_row g) _ e; loopless = l; few = f },
  take_at (counts g) (drop (length g) before) (length g) (table-length (length g) (count kbwg g)),
)

-- the first nodes of a list, where they are counted, stand in the list and in the counts that are left
pub lent-left : (limit size : ℕ) (nodes before after : List ℕ) (lent_work : ℕ) → size ≤ length nodes
    → IsCounted limit (take size nodes) before lent_work (gives []) after → GraphLent (take size nodes) nodes after
lent-left limit size nodes before after lent_work h c =
    record {
      nodes-are = ap (λ k. take k nodes) (length-take-le size nodes h);
      counts-are = (counted-lent limit (take size nodes) before after lent_work c).1;
    }
