-- The list that a case starts with: when there is one, and which it is. Numbers copied one after the other.
use Rattle.std.proofs.Common.{◌≡◌, refl, sym, ap, ◌∙◌, ℕ, zero, suc, ◌+◌, ◌≤◌, ◌<◌, Bool, true, false, ◌&&◌, List, [], ◌∷◌, length, get_or, take, drop, set, leb, arith, add-one, leb-true, le-leb, length-set, length-take-le, drop-cons}
use borrow.Author.Tests.{lt-leb}
use Rattle.std.proofs.Math.Option.{none, some}
use Rattle.std.proofs.lemmas.List.Edits.{sets}
use Rattle.laws.specs.ListWrites.{sets-front, sets-done}
use Rattle.laws.specs.Cases.{and_left, and_right}
use Rattle.stored.specs.Inputs.{pick, all_within, list_in, copied_to}

-- ---- numbers within a limit: each of them is
pub within-at : (most : ℕ) (ns : List ℕ) (i : ℕ) → all_within most ns ≡ true → i < length ns → get_or ns i 0 ≤ most
within-at most [] i h l = absurd (omega arith)
within-at most (n ∷ ns) zero h l = leb-true n most (and_left _ _ h)
within-at most (n ∷ ns) (suc i) h l = within-at most ns i (and_right _ _ h) (omega arith)

-- ---- stores one after the other: what is left to store makes the same list as all of them
module _ (numbers lent₀ : List ℕ) where
  abbrev pub LeftToStore : List ℕ → ℕ → Type 0
  LeftToStore lent i = (length lent ≡ length lent₀) × (sets lent i (drop i numbers) ≡ sets lent₀ 0 numbers)

  module _ (lent : List ℕ) (i : ℕ) (k : LeftToStore lent i) where
    store_next : i < length numbers → sets (set lent i (get_or numbers i 0)) (i + 1) (drop (i + 1) numbers) ≡ sets lent i (drop i numbers)
    store_next h = rw (drop-cons numbers i 0 h, add-one)

    pub stored_one : i < length numbers → LeftToStore (set lent i (get_or numbers i 0)) (i + 1)
    stored_one h = (simp length-set k.0, store_next h ∙ k.1)

    pub all-stored : length numbers ≤ i → lent ≡ sets lent₀ 0 numbers
    all-stored h = sym (sets-done lent numbers i i h) ∙ k.1

-- ---- the list that a case starts with
pub empty-case : (most room : ℕ) (case : List ℕ) → length case ≡ 0 → list_in most room case ≡ none
unfolding list_in
empty-case most room [] h = refl
empty-case most room (n ∷ ns) h = absurd (omega arith)

and_none : (list : List ℕ) (b : Bool) → pick (b && false) (some list) none ≡ none
and_none list true = refl
and_none list false = refl

module _ (most room count : ℕ) (rest : List ℕ) where
  pub missing : length rest < count → list_in most room (count ∷ rest) ≡ none
  unfolding list_in
  missing h = rw (lt-leb count (length rest) h)

  pub no_room : room < count → list_in most room (count ∷ rest) ≡ none
  unfolding list_in
  no_room h = rw (lt-leb count room h) (and_none _ (leb count (length rest)))

  module _ (h : count ≤ length rest) (r : count ≤ room) where
    pub too_high : all_within most (take count rest) ≡ false → list_in most room (count ∷ rest) ≡ none
    unfolding list_in
    too_high w = rw (le-leb _ _ h, le-leb _ _ r, w)

    pub there : all_within most (take count rest) ≡ true → list_in most room (count ∷ rest) ≡ some (take count rest)
    unfolding list_in
    there w = rw (le-leb _ _ h, le-leb _ _ r, w)

-- what is known of it
pub record ListRead (most room : ℕ) (list : List ℕ) : Type 0 where
  pub fits : length list ≤ room
  pub within : all_within most list ≡ true

pub list-read : (most room : ℕ) (case list : List ℕ) → list_in most room case ≡ some list → ListRead most room list
unfolding list_in
list-read most room [] list e = absurd (cc)
list-read most room (n ∷ ns) list e = chosen (leb n (length ns)) (leb n room) (all_within most (take n ns)) refl refl refl e
  where
    chosen : (a b d : Bool) → leb n (length ns) ≡ a → leb n room ≡ b → all_within most (take n ns) ≡ d
        → pick (a && (b && d)) (some (take n ns)) none ≡ some list → ListRead most room list
    chosen true true true p q r f =
        let same : take n ns ≡ list = cc in
        let l = length-take-le n ns (leb-true n (length ns) p) in
        let room = leb-true n room q in
        record { fits = omega (arith, ap length same); within = rw (← same) r }
    chosen true true false p q r f = absurd (cc)
    chosen true false d p q r f = absurd (cc)
    chosen false b d p q r f = absurd (cc)

-- copied to the front of a lent list
pub list-copied : (lent list : List ℕ) {after : List ℕ} → length list ≤ length lent → after ≡ sets lent 0 list → after ≡ copied_to lent (some list)
list-copied lent list h e = e ∙ sets-front lent list h
