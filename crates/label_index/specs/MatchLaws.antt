-- Which label is taken: the one that matches and than which no other that matches is better (`taken`, `match_is`); where none matches, none
-- (`none-taken`, `match-absent`).
use Rattle.std.specs.Prelude.{◌≡◌, refl, true, false, ◌&&◌, ℕ, ◌≤◌, ◌<◌, eqb, ltb, length, get_or}
use Rattle.std.proofs.Common.{sym, ap, ap₂, ◌∙◌, subst, true≢false, ⊎_elim, arith, ltb-true, ltb-false, eqb-true, eq-eqb}
use mathlib.Core.List.Memᴰ
use mathlib.Core.List.{List, [], ◌∷◌, Memᴰ}
use Rattle.std.proofs.Math.Option.{none, some, some-injective}
use Rattle.laws.specs.Cases.{split, split_option, some≢none, and_left, or_false-left, or_false-right}
use Rattle.label_index.specs.Labels.{Label, labels_in}
use Rattle.label_index.specs.LabelLaws.{labels-good}
use Rattle.label_index.specs.Matches.{starts_with, Match, match_of, better, match_in}

-- ---- the order of matches
-- m is no better than k: it takes no more bytes and, where it takes as many, its tile is no lower
pub record NotBetter (m k : Match) : Type 0 where
  pub shorter : m.1 ≤ k.1
  pub higher : m.1 ≡ k.1 → k.0 ≤ m.0

not-better : (m k : Match) → better m k ≡ false → NotBetter m k
not-better m k e =
    let a = ltb-false k.1 m.1 (or_false-left (ltb k.1 m.1) (eqb k.1 m.1 && ltb m.0 k.0) e) in
    let b = or_false-right (ltb k.1 m.1) (eqb k.1 m.1 && ltb m.0 k.0) e in
    record { shorter = a; higher = λ i. ltb-false m.0 k.0 (rw (eq-eqb k.1 m.1 (sym i)) at b) }

better-yes : (m k : Match) → better m k ≡ true → NotBetter k m
better-yes m k e =
    split (ltb k.1 m.1)
    (λ t. let l = ltb-true k.1 m.1 t in record { shorter = omega arith; higher = λ i. absurd (omega arith) })
    (λ t.
    let b : eqb k.1 m.1 && ltb m.0 k.0 ≡ true = rw t at e in
    split (eqb k.1 m.1)
    (λ q.
    let i = eqb-true k.1 m.1 q in
    let l = ltb-true m.0 k.0 (rw q at b) in
    record { shorter = omega arith; higher = λ _. omega arith })
    (λ q. absurd (true≢false (sym (rw q at b)))))

not-better_trans : {a b d : Match} → NotBetter a b → NotBetter b d → NotBetter a d
not-better_trans {a} {b} {d} h k =
    let p = h.shorter in let q = k.shorter in
    record {
      shorter = omega arith;
      higher = λ e. let x : a.1 ≡ b.1 = omega arith in let y : b.1 ≡ d.1 = omega arith in
          let u = h.higher x in let v = k.higher y in omega arith;
    }

not-better_self : (a : Match) → NotBetter a a
not-better_self a = record { shorter = omega arith; higher = λ _. omega arith }

same-Match : {a b : Match} → NotBetter a b → NotBetter b a → a ≡ b
same-Match {a} {b} h k =
    let p = h.shorter in let q = k.shorter in
    let e : a.1 ≡ b.1 = omega arith in
    let u = h.higher e in let v = k.higher (sym e) in
    let f : a.0 ≡ b.0 = omega arith in
    ap₂ (λ x y. (x, y)) f e

-- no label that matches is better than m
abbrev pub NoneBetter : List Label → List ℕ → Match → Type 0
NoneBetter ls s m = (l : Label) → Memᴰ l ls → starts_with l.1 s ≡ true → NotBetter (match_of l) m

-- ---- what is taken of the labels where text s stands: "The longest label that matches at a place is taken, then the lower tile"
pub record Taken (ls : List Label) (s : List ℕ) (m : Match) : Type 0 where
  pub label : Label
  pub among : Memᴰ label ls
  -- "matches at a place"
  pub matches : starts_with label.1 s ≡ true
  -- "is taken": its tile, and as many bytes as it has
  pub is : match_of label ≡ m
  -- "The longest label": none that matches is longer
  pub longest : (l : Label) → Memᴰ l ls → starts_with l.1 s ≡ true → length l.1 ≤ m.1
  -- "then the lower tile": none as long has a lower tile
  pub lowest : (l : Label) → Memᴰ l ls → starts_with l.1 s ≡ true → length l.1 ≡ m.1 → m.0 ≤ l.0

module _ {ls : List Label} {s : List ℕ} {m : Match} where
  pub taken-by : (l : Label) → Memᴰ l ls → starts_with l.1 s ≡ true → match_of l ≡ m → NoneBetter ls s m → Taken ls s m
  taken-by l i b e best = record {
    label = l;
    among = i;
    matches = b;
    is = e;
    longest = λ k j c. (best k j c).shorter;
    lowest = λ k j c. (best k j c).higher;
  }

  best_taken : Taken ls s m → NoneBetter ls s m
  best_taken r l i b = record { shorter = r.longest l i b; higher = r.lowest l i b }

-- ---- where nothing is taken, no label matches
pub none-taken : (ls : List Label) (s : List ℕ) → match_in ls s ≡ none → (l : Label) → Memᴰ l ls → starts_with l.1 s ≡ false
unfolding match_in
none-taken [] s e l i = absurd (Memᴰ.not-nil i)
none-taken (k ∷ ls) s e l i =
    split (starts_with k.1 s)
    (λ t. split_option (match_in ls s)
    (λ n. some≢none (rw (t, n) at e))
    (λ m q. split (better (match_of k) m)
    (λ b. some≢none (rw (t, q, b) at e))
    (λ b. some≢none (rw (t, q, b) at e))))
    (λ t. ⊎_elim (λ j. ap (λ (x : Label). starts_with x.1 s) j ∙ t) (λ j. none-taken ls s (rw t at e) l j) (Memᴰ.cases_cons i))

-- ---- what is taken is the best: a label more
module _ (k : Label) {ls : List Label} (s : List ℕ) where
  none-better-more : (m : Match) → (starts_with k.1 s ≡ true → NotBetter (match_of k) m) → NoneBetter ls s m → NoneBetter (k ∷ ls) s m
  none-better-more m one rest l i b =
      ⊎_elim
      (λ j. subst (λ (x : Label). NotBetter (match_of x) m) (sym j) (one (ap (λ (x : Label). starts_with x.1 s) (sym j) ∙ b)))
      (λ j. rest l j b)
      (Memᴰ.cases_cons i)

  taken-head : starts_with k.1 s ≡ true → NoneBetter ls s (match_of k) → Taken (k ∷ ls) s (match_of k)
  taken-head t rest = taken-by k (Memᴰ.head refl) t refl (none-better-more (match_of k) (λ _. not-better_self (match_of k)) rest)

  taken_tail : {m : Match} → Taken ls s m → (starts_with k.1 s ≡ true → NotBetter (match_of k) m) → Taken (k ∷ ls) s m
  taken_tail {m} r one = taken-by r.label (Memᴰ.tail r.among) r.matches r.is (none-better-more m one (best_taken r))

pub taken : (ls : List Label) (s : List ℕ) (m : Match) → match_in ls s ≡ some m → Taken ls s m
unfolding match_in
taken [] s m e = some≢none (sym e)
taken (k ∷ ls) s m e =
    split (starts_with k.1 s)
    (λ t. split_option (match_in ls s)
    (λ n. subst (Taken (k ∷ ls) s) (some-injective _ _ (rw (t, n) at e))
    (taken-head k s t (λ l i b. absurd (true≢false (sym b ∙ none-taken ls s n l i)))))
    (λ o q. split (better (match_of k) o)
    (λ b. subst (Taken (k ∷ ls) s) (some-injective _ _ (rw (t, q, b) at e))
    (taken-head k s t (λ l i c. not-better_trans (best_taken (taken ls s o q) l i c) (better-yes (match_of k) o b))))
    (λ b. subst (Taken (k ∷ ls) s) (some-injective _ _ (rw (t, q, b) at e)) (taken_tail k s (taken ls s o q) (λ _. not-better (match_of k) o b)))))
    (λ t. taken_tail k s (taken ls s m (rw t at e)) (λ b. absurd (true≢false (sym b ∙ t))))

-- ---- the converse
module _ (ls : List Label) (s : List ℕ) where
  pub match_is : (m : Match) → Taken ls s m → match_in ls s ≡ some m
  match_is m r =
      split_option (match_in ls s)
      (λ n. absurd (true≢false (sym r.matches ∙ none-taken ls s n r.label r.among)))
      (λ k q.
      let o = taken ls s k q in
      let no-worse = subst (λ (x : Match). NotBetter x m) o.is (best_taken r o.label o.among o.matches) in
      let no-better = subst (λ (x : Match). NotBetter x k) r.is (best_taken o r.label r.among r.matches) in
      q ∙ ap some (same-Match no-worse no-better))

  pub match_absent : ((l : Label) → Memᴰ l ls → starts_with l.1 s ≡ false) → match_in ls s ≡ none
  match_absent h =
      split_option (match_in ls s)
      (λ n. n)
      (λ m q. let r = taken ls s m q in absurd (true≢false (sym r.matches ∙ h r.label r.among)))

-- ---- a text that starts with a label
-- a text that starts with a label starts with its first byte
pub starts_first : (label s : List ℕ) → 1 ≤ length label → starts_with label s ≡ true → get_or label 0 0 ≡ get_or s 0 0
unfolding starts_with
starts_first [] s h e = absurd (omega arith)
starts_first (a ∷ label) [] h e = absurd (true≢false (sym e))
starts_first (a ∷ label) (b ∷ s) h e = eqb-true a b (and_left (eqb a b) (starts_with label s) e)

pub starts-short : (label s : List ℕ) → length s < length label → starts_with label s ≡ false
unfolding starts_with
starts-short [] s h = absurd (omega arith)
starts-short (a ∷ label) [] h = refl
starts-short (a ∷ label) (b ∷ s) h =
    let r = starts-short label s (omega arith) in
    split (eqb a b) (λ e. rw e r) (λ e. rw e)

pub starts-fits : (label s : List ℕ) → starts_with label s ≡ true → length label ≤ length s
starts-fits label s e =
    split (ltb (length s) (length label))
    (λ t. absurd (true≢false (sym e ∙ starts-short label s (ltb-true (length s) (length label) t))))
    (λ t. ltb-false (length s) (length label) t)

-- what is taken by the labels of a file takes at least a byte, and no more than there are
pub Match-takes : (file s : List ℕ) (m : Match) → match_in (labels_in file) s ≡ some m → (1 ≤ m.1) × (m.1 ≤ length s)
Match-takes file s m e =
    let r = taken (labels_in file) s m e in
    let g = (labels-good file r.label r.among).some_bytes in
    let size = ap (λ (k : Match). k.1) r.is in
    let fits = starts-fits r.label.1 s r.matches in
    (omega arith, omega arith)
