-- What a call changes. The idea: past the checks there is one word with a bit, and either its bit refuses the move or it is turned over.
use Rattle.std.specs.Prelude.{◌≡◌, refl, Bool, not, ℕ, zero, suc, ◌+◌, ◌*◌, ◌/◌, ◌≤◌, ◌<◌, eqb, length}
use Rattle.std.proofs.Common.{sym, ap, ◌∙◌, subst, ⊎_elim, arith, eqb-true}
use mathlib.Core.List.Memᴰ
use mathlib.Core.List.{List, [], ◌∷◌, Memᴰ}
use Rattle.std.proofs.lemmas.Bool.{eqb-false}
use Rattle.laws.specs.Cases.{split}
use Rattle.laws.specs.Members.{filtered-same}
use Rattle.answers.specs.Answers.{Answer, gives, nothing, refused, IsRefusal}
use Rattle.answers.specs.RowLaws.{gives≢refused}
use Rattle.graph.specs.Runs.{Graph}
use Rattle.graph.specs.Words.{Word}
use Rattle.lookup.specs.Steps.{Try, on, stop}
use Rattle.lookup.specs.StepsLaws.{on_eq, Comes}
use Rattle.in_play.specs.declared.Move.{Move}
use Rattle.in_play.specs.declared.Move.TheVariants as M
use Rattle.in_play.specs.InPlay.{in_play, turned, up_from, not_in_play, start_count, in_lexicon, allowed, remaining, Played, played, moved_by, play}
use Rattle.in_play.proofs.PlayLaws.{Within, found-Comes, play-unknown, play-known, not-allowed, is-allowed}
use Rattle.in_play.specs.RecordLaws.{turned-here, turned_elsewhere, turned-length}
use Rattle.in_play.specs.Changes.{SameBelow, Changes}

-- a number of a row lies in it
pub in_row : (first n k : ℕ) → Memᴰ k (up_from first n) → (first ≤ k) × (k < first + n)
in_row first zero k m = absurd (Memᴰ.not-nil m)
in_row first (suc n) k m =
    ⊎_elim
    (λ i. (omega arith, omega arith))
    (λ t. let r = in_row (suc first) n k t in let a = r.0 in let b = r.1 in (omega arith, omega arith))
    (Memᴰ.cases_cons m)

remaining_gives : {C : Type 0} (n : ℕ) (l : List ℕ) {k : ℕ} {vs : List ℕ} → remaining n l ≡ refused k vs → C
remaining_gives n [] e = gives≢refused e
remaining_gives n (x ∷ l) e = gives≢refused e

-- the same bits below the count: the same numbers are not in play
same_numbers : (total : ℕ) (one other : List ℕ) → ((n : ℕ) → n < total → in_play one n ≡ in_play other n) → not_in_play one total ≡ not_in_play other total
unfolding not_in_play
same_numbers total one other e =
    filtered-same (λ n. not (in_play one n)) (λ n. not (in_play other n)) (up_from 0 total) (λ n m. ap not (e n (let r = (in_row 0 total n m).1 in omega arith)))

-- ---- a call that is refused, whatever the bits past the count are
not_gives : {C : Type 0} (r : Answer) → IsRefusal r → {vs : List ℕ} → r ≡ gives vs → C
not_gives (gives us) h e = absurd h
not_gives nothing h e = absurd h
not_gives (refused k us) h e = gives≢refused (sym e)

refusing-call : (total : ℕ) (call : List ℕ → Played) (bits : List ℕ) (r : Answer) → IsRefusal r
    → ((other : List ℕ) → SameBelow total bits other → call other ≡ record { answer = r; bits = other }) → Changes total call bits
refusing-call total call bits r refuses e =
    let p = e bits (record { size = refl; bits = λ n h. refl }) in
    record {
      size = ap (λ (q : Played). length q.bits) p;
      refused_none = λ _. ap (λ (q : Played). q.bits) p;
      accepted-one = λ g. not_gives r refuses (sym (ap (λ (q : Played). q.answer) p) ∙ g);
      past-kept = λ m _. ap (λ (q : Played). in_play q.bits m) p;
      past-unread = λ other s. ap (λ (q : Played). q.answer) (e other s) ∙ sym (ap (λ (q : Played). q.answer) p);
    }

-- ---- a word that is found
module _ (move : Move) (bits : List ℕ) (n total : ℕ) (below : n < total) (enough : total ≤ 8 * length bits) where
  lies : n / 8 < length bits
  lies = omega arith

  abbrev moved : List ℕ → Played
  moved b = played b (moved_by move b n total)

  same-verdict : (other : List ℕ) → SameBelow total bits other → {x : Try Bool} → allowed move (in_play bits n) ≡ x → allowed move (in_play other n) ≡ x
  same-verdict other s e = ap (allowed move) (sym (s.bits n below)) ∙ e

  stays : {k : ℕ} → allowed move (in_play bits n) ≡ stop (refused k []) → Changes total moved bits
  stays {k} e = refusing-call total moved bits (refused k []) tt (λ other s. not-allowed move other n total (same-verdict other s e))

  turns : {b : Bool} → allowed move (in_play bits n) ≡ on b → Changes total moved bits
  turns e =
      let p = is-allowed move bits n total e in
      record {
        size = ap (λ (r : Played). length r.bits) p ∙ turned-length bits n;
        refused_none = λ g. remaining_gives (length (not_in_play (turned bits n) total)) (not_in_play (turned bits n) total) (sym (ap (λ (r : Played). r.answer) p) ∙ g);
        accepted-one = λ _. rw p (record { number = n; below = below; turned_over = turned-here bits n lies; others = turned_elsewhere bits n lies });
        past-kept = λ m h. ap (λ (r : Played). in_play r.bits m) p ∙ turned_elsewhere bits n lies m (λ i. omega arith);
        past-unread = λ other s.
            ap (λ (r : Played). r.answer) (is-allowed move other n total (same-verdict other s e))
            ∙ ap (λ l. remaining (length l) l) (same_numbers total (turned other n) (turned bits n) (turned_same other s))
            ∙ sym (ap (λ (r : Played). r.answer) p);
      }
    where
      turned_same : (other : List ℕ) → SameBelow total bits other → (m : ℕ) → m < total → in_play (turned other n) m ≡ in_play (turned bits n) m
      turned_same other s m h =
          let size = s.size in
          split (eqb m n)
          (λ t. rw (eqb-true m n t) (turned-here other n (omega arith) ∙ ap not (sym (s.bits n below)) ∙ sym (turned-here bits n lies)))
          (λ t.
          let d = eqb-false m n t in
          turned_elsewhere other n (omega arith) m d ∙ sym (s.bits m h) ∙ sym (turned_elsewhere bits n lies m d))

word-moves : (move : Move) (bits : List ℕ) (n total : ℕ) → n < total → total ≤ 8 * length bits → Changes total (λ b. played b (moved_by move b n total)) bits
word-moves M.Arrives bits n total below enough =
    split (in_play bits n)
    (λ t. stays M.Arrives bits n total below enough (ap (allowed M.Arrives) t))
    (λ t. turns M.Arrives bits n total below enough (ap (allowed M.Arrives) t))
word-moves M.Leaves bits n total below enough =
    split (in_play bits n)
    (λ t. turns M.Leaves bits n total below enough (ap (allowed M.Leaves) t))
    (λ t. stays M.Leaves bits n total below enough (ap (allowed M.Leaves) t))

-- ---- a call
module _ (limit : ℕ) (move : Move) (nodes : Graph) (counts : List ℕ) (start total : ℕ) (word : Word) (counted : start_count nodes counts start ≡ on total)
    (bits : List ℕ) where
  abbrev call : List ℕ → Played
  call b = play limit move nodes counts start word b

  -- the word is looked up alike, whatever the bits are
  looked_up : (other : List ℕ) → SameBelow total bits other → {x : Try (ℕ × ℕ)} → in_lexicon limit nodes counts start word (length bits) ≡ x
      → in_lexicon limit nodes counts start word (length other) ≡ x
  looked_up other s e = ap (in_lexicon limit nodes counts start word) (sym s.size) ∙ e

  by-lookup : (x : Try (ℕ × ℕ)) → in_lexicon limit nodes counts start word (length bits) ≡ x → Changes total call bits
  by-lookup (stop r) e =
      refusing-call total call bits r
      (subst (Comes (Within limit nodes counts start word (length bits)) IsRefusal) e (found-Comes limit nodes counts start word (length bits)))
      (λ other s. play-unknown limit move nodes counts start word other (looked_up other s e))
  by-lookup (on (n, t)) e =
      let w = subst (Comes (Within limit nodes counts start word (length bits)) IsRefusal) e (found-Comes limit nodes counts start word (length bits)) in
      let q : t ≡ total = on_eq (sym w.0 ∙ counted) in
      let found : in_lexicon limit nodes counts start word (length bits) ≡ on (n, total) = e ∙ ap (λ k. on (n, k)) q in
      let a = w.1 in
      let b = w.2 in
      let m = word-moves move bits n total (omega arith) (omega arith) in
      let p = play-known limit move nodes counts start word bits found in
      record {
        size = rw p m.size;
        refused_none = λ g. rw p (m.refused_none (rw p at g));
        accepted-one = λ g. rw p (m.accepted-one (rw p at g));
        past-kept = λ k h. rw p (m.past-kept k h);
        past-unread = λ other s.
            ap (λ (r : Played). r.answer) (play-known limit move nodes counts start word other (looked_up other s found)) ∙ m.past-unread other s
            ∙ sym (ap (λ (r : Played). r.answer) p);
      }

  pub changes : Changes total call bits
  changes = by-lookup (in_lexicon limit nodes counts start word (length bits)) refl
