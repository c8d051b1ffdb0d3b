-- A buffer that a walk fills from its front, number by number. The idea: the numbers put and those of the walk that is left are the whole's.
use Rattle.std.specs.Prelude.{◌≡◌, refl, List, [], ◌∷◌, ◌++◌, ℕ, suc, ◌+◌, ◌-◌, ◌≤◌, ◌<◌, length, drop, take, set}
use Rattle.std.proofs.Common.{sym, ap, ap₂, ◌∙◌, append-nil, append_assoc, zero-le, add-one, arith, length-set, length-append, length-drop, take-append-drop, drop_of_length-le, take-suc-set, drop-set-lt, length-take-le, drop-drop, take_all, take_at, drop_at}

-- a walk gives numbers and an answer: the numbers stand at the front of the buffer, the rest of it is as before, and r is the answer
pub record Filled {A : Type 0} (walk : List ℕ × A) (before after : List ℕ) (r : A) : Type 0 where
  pub answer : r ≡ walk.1
  pub front : after ≡ walk.0 ++ drop (length walk.0) before

-- n numbers are put in w, which was w₀; `left` is the walk from there, and `whole` that from the start
pub record Left {A : Type 0} (whole : List ℕ × A) (w₀ : List ℕ) (n : ℕ) (w : List ℕ) (left : List ℕ × A) : Type 0 where
  pub size : length w ≡ length w₀
  pub room : n ≤ length w
  pub rest : drop n w ≡ drop n w₀
  pub put : whole.0 ≡ take n w ++ left.0
  pub answer : whole.1 ≡ left.1

pub left-begins : {A : Type 0} (whole : List ℕ × A) (w : List ℕ) → Left whole w 0 w whole
left-begins whole w = record { size = refl; room = zero-le; rest = refl; put = refl; answer = refl }

module _ {A : Type 0} {whole : List ℕ × A} {w₀ : List ℕ} {n : ℕ} {w : List ℕ} where
  pub left_is : {a b : List ℕ × A} → a ≡ b → Left whole w₀ n w a → Left whole w₀ n w b
  left_is e l = rw e at l

  pub left-put : (t : ℕ) (ts : List ℕ) (r : A) → n < length w → Left whole w₀ n w (t ∷ ts, r) → Left whole w₀ (n + 1) (set w n t) (ts, r)
  left-put t ts r h l = record {
    size = length-set w n t ∙ l.size;
    room = rw length-set (omega arith);
    rest = rw (add-one, drop-set-lt (suc n) w n t (omega arith))
        (ap (λ k. drop k w) (sym (add-one n)) ∙ sym (drop-drop 1 n w) ∙ ap (drop 1) l.rest ∙ drop-drop 1 n w₀ ∙ ap (λ k. drop k w₀) (add-one n));
    put = l.put ∙ rw (add-one, take-suc-set w n t h, append_assoc);
    answer = l.answer;
  }

  -- several at once, by another walk that filled the buffer from place n on
  pub left-fill : (ts us : List ℕ) (r : A) {v : List ℕ} → v ≡ take n w ++ (ts ++ drop (length ts) (drop n w)) → n + length ts ≤ length w
      → Left whole w₀ n w (ts ++ us, r) → Left whole w₀ (n + length ts) v (us, r)
  left-fill ts us r {v} e h l =
      let m : length (take n w) ≡ n = length-take-le n w l.room in
      let k : length (take n w ++ ts) ≡ n + length ts = length-append (take n w) ts ∙ ap (λ i. i + length ts) m in
      let f : v ≡ take n w ++ ts ++ drop (n + length ts) w = e ∙ sym (append_assoc (take n w) ts (drop (length ts) (drop n w)))
      ∙ ap (λ (x : List ℕ). take n w ++ ts ++ x) (drop-drop (length ts) n w) in
      let d = length-drop (n + length ts) w in
      let c : length v ≡ n + length ts + length (drop (n + length ts) w)
      = ap length f ∙ length-append (take n w ++ ts) (drop (n + length ts) w) ∙ ap (λ i. i + length (drop (n + length ts) w)) k in
      record {
        size = (let z : length v ≡ length w = omega arith in z) ∙ l.size;
        room = omega arith;
        rest = ap (drop (n + length ts)) f ∙ drop_at (take n w ++ ts) (drop (n + length ts) w) (n + length ts) k
            ∙ sym (drop-drop (length ts) n w) ∙ ap (drop (length ts)) l.rest ∙ drop-drop (length ts) n w₀;
        put = l.put ∙ sym (append_assoc (take n w) ts us)
            ∙ ap (◌++ us) (sym (ap (take (n + length ts)) f ∙ take_at (take n w ++ ts) (drop (n + length ts) w) (n + length ts) k));
        answer = l.answer;
      }

  pub left-done : (r : A) → Left whole w₀ n w ([], r) → Filled whole w₀ w r
  left-done r l =
      let t : whole.0 ≡ take n w = l.put ∙ append-nil (take n w) in
      let k : length whole.0 ≡ n = ap length t ∙ length-take-le n w l.room in
      record {
        answer = sym l.answer;
        front = sym (take-append-drop n w) ∙ ap₂ ◌++◌ (sym t) (l.rest ∙ ap (λ i. drop i w₀) (sym k));
      }

-- ---- the part of a buffer from a place on, filled by another walk
module _ {A : Type 0} {walk : List ℕ × A} {r : A} (w : List ℕ) (n : ℕ) {ys : List ℕ} (f : Filled walk (take (length w - n) (drop n w)) ys r) where
  pub part_filled : take n w ++ (ys ++ drop (length w - n) (drop n w)) ≡ take n w ++ (walk.0 ++ drop (length walk.0) (drop n w))
  part_filled =
      let d = length-drop n w in
      let whole : take (length w - n) (drop n w) ≡ drop n w = take_all (length w - n) (drop n w) (omega arith) in
      let past : length (drop n w) ≤ length w - n = omega arith in
      let none : drop (length w - n) (drop n w) ≡ [] = drop_of_length-le (drop n w) past in
      ap (take n w ++◌)
      (ap (ys ++◌) none ∙ append-nil ys ∙ f.front ∙ ap (λ (x : List ℕ). walk.0 ++ drop (length walk.0) x) whole)

  pub part-fits : length ys ≡ length (take (length w - n) (drop n w)) → length walk.0 ≤ length w - n
  part-fits e =
      let d = length-drop n w in
      let t = length-take-le (length w - n) (drop n w) (omega arith) in
      let c = ap length f.front ∙ length-append walk.0 (drop (length walk.0) (take (length w - n) (drop n w))) in omega arith
