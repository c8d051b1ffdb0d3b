-- Numbers of a shelf tell runs apart: two numbers that stand for the same words are one.
use Rattle.std.specs.Prelude.{◌≡◌, refl, Bool, true, false, ◌≢◌, ◌⊎◌, ℕ, suc, ◌≤◌, ◌<◌, eqb, length}
use Rattle.std.proofs.Common.{sym, ap, ap₂, ◌∙◌, subst, true≢false, inl, inr, ⊎_elim, arith, eq-eqb, eqb-true, ne_eqb, length-append}
use mathlib.Core.List.{List, [], ◌∷◌, ◌++◌, map, Memᴰ, head-eq_of_cons-eq, tail-eq_of_cons-eq}
use Rattle.std.proofs.lemmas.Bool.{eqb-false}
use Rattle.std.proofs.lemmas.List.{length-map}
use Rattle.laws.specs.Cases.{split}
use Rattle.laws.specs.Lists.{All, all_append, filtered, has_entries, is_empty, some_of}
use Rattle.graph.specs.Words.{Word}
use Rattle.built.specs.BranchLaws.{HasTile, all-filled, empty_word, none-empty, words_of, words_of_all}
use Rattle.built.specs.Branches.{Branch, branch, branches, branches_with}
use Rattle.shelf.specs.Shelf.{FirstAbove, MayStand, Shelf, ShelfEntry, SoundShelf, number_words, tail_of}

-- ---- branches made anew from their words
-- branches with words, each with another tile than the next
abbrev pub Tidy : List Branch → Type 0
Tidy [] = Unit
Tidy (b ∷ bs) = (0 < length b.rests) × FirstAbove b.first bs × Tidy bs

pub with-above : (t : ℕ) (u : Word) (bs : List Branch) → FirstAbove t bs → branches_with t u bs ≡ branch t (u ∷ []) ∷ bs
unfolding branches_with
with-above t u [] a = refl
with-above t u (b ∷ bs) a = rw (ne_eqb t b.first (λ e. omega arith), branches_with)

pub with-same : (t : ℕ) (u : Word) (us : List Word) (bs : List Branch) → branches_with t u (branch t us ∷ bs) ≡ branch t (u ∷ us) ∷ bs
unfolding branches_with
with-same t u us bs = rw (eq-eqb t t refl, branches_with)

branch-first : (t : ℕ) (us ws : List Word) → 0 < length us → FirstAbove t (branches ws) → branches (map (t ∷◌) us ++ ws) ≡ branch t us ∷ branches ws
unfolding branches
branch-first t [] ws h a = absurd (omega arith)
branch-first t (u ∷ []) ws h a = with-above t u (branches ws) a
branch-first t (u ∷ v ∷ us) ws h a = ap (branches_with t u) (branch-first t (v ∷ us) ws (omega arith) a) ∙ with-same t u (v ∷ us) (branches ws)

pub tidy-branches : (bs : List Branch) → Tidy bs → branches (words_of_all bs) ≡ bs
unfolding branches
tidy-branches [] t = refl
tidy-branches (b ∷ bs) t =
    let r = tidy-branches bs t.2 in
    branch-first b.first b.rests (words_of_all bs) t.0 (subst (FirstAbove b.first) (sym r) t.1) ∙ ap (b ∷◌) r

-- ---- words in branches are not empty
some-map : (t : ℕ) (us : List Word) → All HasTile (map (t ∷◌) us)
some-map t [] = tt
some-map t (u ∷ us) = (omega arith, some-map t us)

pub words-some : (bs : List Branch) → All HasTile (words_of_all bs)
words-some [] = tt
words-some (b ∷ bs) = all_append HasTile (words_of b) (words_of_all bs) (some-map b.first b.rests) (words-some bs)

pub alone-is : (a : Bool) (us : List Word) → All HasTile us → some_of is_empty (empty_word a ++ us) ≡ a
alone-is true us h = refl
alone-is false us h = none-empty us h

pub onward-is : (a : Bool) (us : List Word) → All HasTile us → filtered has_entries (empty_word a ++ us) ≡ us
onward-is true us h = all-filled us h
onward-is false us h = all-filled us h

-- ---- a shelf
pub tail_top : (e : ShelfEntry) (d : Shelf) → tail_of (e ∷ d) (suc (length d)) ≡ branch e.tile (empty_word e.accepts ++ number_words d e.child) ∷ tail_of d e.next
unfolding tail_of
tail_top e d = rw (eq-eqb (suc (length d)) (suc (length d)) refl, tail_of)

pub tail_below : (e : ShelfEntry) (d : Shelf) (n : ℕ) → n ≤ length d → tail_of (e ∷ d) n ≡ tail_of d n
unfolding tail_of
tail_below e d n h = rw (ne_eqb n (suc (length d)) (λ i. omega arith), tail_of)

pub tail_zero : (d : Shelf) → tail_of d 0 ≡ []
unfolding tail_of
tail_zero [] = refl
tail_zero (e ∷ d) = tail_below e d 0 (omega arith) ∙ tail_zero d

-- the newest, or one before it
pub top_or_below : {C : Type 0} (d : Shelf) (n : ℕ) → n ≤ suc (length d) → (n ≡ suc (length d) → C) → (n ≤ length d → C) → C
top_or_below d n h top below =
    split (eqb n (suc (length d)))
    (λ t. top (eqb-true n (suc (length d)) t))
    (λ t. let k = eqb-false n (suc (length d)) t in below (omega arith))

-- the branch of an entry
abbrev pub branch_of : Shelf → ShelfEntry → Branch
branch_of d e = branch e.tile (empty_word e.accepts ++ number_words d e.child)

-- ---- what a number stands for is tidy, and is something
pub record Told (d : Shelf) (n : ℕ) : Type 0 where
  pub some : 0 < n → 0 < length (number_words d n)
  pub tidy : Tidy (tail_of d n)

rests-some : (a : Bool) (us : List Word) → (a ≡ true) ⊎ (0 < length us) → 0 < length (empty_word a ++ us)
rests-some true us h = omega arith
rests-some false us h = ⊎_elim (λ (i : false ≡ true). absurd (true≢false (sym i))) (λ (k : 0 < length us). k) h

told-top : (e : ShelfEntry) (d : Shelf) → MayStand d e → Told d e.child → Told d e.next → Told (e ∷ d) (suc (length d))
told-top e d f c x =
    let us = number_words d e.child in
    let r = rests-some e.accepts us (⊎_elim (λ (i : e.accepts ≡ true). inl i) (λ (k : e.child ≢ 0). inr (c.some (omega arith))) f.some) in
    let t = tail_top e d in
    let b = branch_of d e in
    record {
      some = λ _. rw t (let m = length-map b.rests (b.first ∷◌) in let n = length-append (words_of b) (number_words d e.next) in omega arith);
      tidy = rw t (r, f.rises, x.tidy);
    }

pub told : (d : Shelf) → SoundShelf d → (n : ℕ) → n ≤ length d → Told d n
unfolding tail_of
told [] v n h = record { some = λ p. absurd (omega arith); tidy = tt }
told (e ∷ d) v n h =
    let f = v.0 in
    top_or_below d n h
    (λ t. subst (Told (e ∷ d)) (sym t) (told-top e d f (told d v.1 e.child f.child-known) (told d v.1 e.next f.next_known)))
    (λ k.
    let r = told d v.1 n k in
    let same = tail_below e d n k in
    record { some = λ p. subst (λ l. 0 < length (words_of_all l)) (sym same) (r.some p); tidy = subst Tidy (sym same) r.tidy })

-- so its words tell its branches
pub branches_at : (d : Shelf) → SoundShelf d → (n : ℕ) → n ≤ length d → branches (number_words d n) ≡ tail_of d n
branches_at d v n h = tidy-branches (tail_of d n) (told d v n h).tidy

-- ---- the entry of a number
pub record NamedEntry (d : Shelf) (n : ℕ) : Type 0 where
  pub entry : ShelfEntry
  pub on-shelf : Memᴰ entry d
  pub child-known : entry.child ≤ length d
  pub next_known : entry.next ≤ length d
  pub is : tail_of d n ≡ branch_of d entry ∷ tail_of d entry.next

-- what is said of a shelf holds with one entry more
pub branch-below : (e f : ShelfEntry) (d : Shelf) → f.child ≤ length d → branch_of (e ∷ d) f ≡ branch_of d f
branch-below e f d h = ap (λ l. branch f.tile (empty_word f.accepts ++ words_of_all l)) (tail_below e d f.child h)

pub entry_named : (d : Shelf) → SoundShelf d → (n : ℕ) → 0 < n → n ≤ length d → NamedEntry d n
entry_named [] v n p h = absurd (omega arith)
entry_named (e ∷ d) v n p h =
    let f = v.0 in
    let ck = f.child-known in
    let nk = f.next_known in
    top_or_below d n h
    (λ t. record {
      entry = e;
      on-shelf = Memᴰ.head refl;
      child-known = omega arith;
      next_known = omega arith;
      is = ap (tail_of (e ∷ d)) t ∙ tail_top e d ∙ ap₂ ◌∷◌ (sym (branch-below e e d ck)) (sym (tail_below e d e.next nk));
    })
    (λ k.
    let r = entry_named d v.1 n p k in
    let c = r.child-known in
    let x = r.next_known in
    record {
      entry = r.entry;
      on-shelf = Memᴰ.tail r.on-shelf;
      child-known = omega arith;
      next_known = omega arith;
      is = tail_below e d n k ∙ r.is ∙ ap₂ ◌∷◌ (sym (branch-below e r.entry d c)) (sym (tail_below e d r.entry.next x));
    })

-- ---- two entries with the same branch and the same rest are one
entry-same : (e f : ShelfEntry) → e.tile ≡ f.tile → e.accepts ≡ f.accepts → e.child ≡ f.child → e.next ≡ f.next → e ≡ f
entry-same e f t a c n = λ i. record { tile = t i; accepts = a i; child = c i; next = n i }

module _ (d : Shelf) (v : SoundShelf d) (apart : (m n : ℕ) → m ≤ length d → n ≤ length d → tail_of d m ≡ tail_of d n → m ≡ n) where
  same-entry : (e f : ShelfEntry) → e.child ≤ length d → e.next ≤ length d → f.child ≤ length d → f.next ≤ length d
      → branch_of d e ∷ tail_of d e.next ≡ branch_of d f ∷ tail_of d f.next → e ≡ f
  same-entry e f ec en fc fn q =
      let b : branch_of d e ≡ branch_of d f = head-eq_of_cons-eq q in
      let x : tail_of d e.next ≡ tail_of d f.next = tail-eq_of_cons-eq q in
      let rests : empty_word e.accepts ++ number_words d e.child ≡ empty_word f.accepts ++ number_words d f.child = ap (λ (c : Branch). c.rests) b in
      let se = words-some (tail_of d e.child) in
      let sf = words-some (tail_of d f.child) in
      let a = sym (alone-is e.accepts (number_words d e.child) se) ∙ ap (some_of is_empty) rests ∙ alone-is f.accepts (number_words d f.child) sf in
      let o = sym (onward-is e.accepts (number_words d e.child) se) ∙ ap (filtered has_entries) rests ∙ onward-is f.accepts (number_words d f.child) sf in
      let c = sym (branches_at d v e.child ec) ∙ ap branches o ∙ branches_at d v f.child fc in
      entry-same e f (ap (λ (y : Branch). y.first) b) a (apart e.child f.child ec fc c) (apart e.next f.next en fn x)

-- the newest entry stands for nothing that stood there before
newest_apart : (e : ShelfEntry) (d : Shelf) → MayStand d e → SoundShelf d → ((m n : ℕ) → m ≤ length d → n ≤ length d → tail_of d m ≡ tail_of d n → m ≡ n)
    → (n : ℕ) → n ≤ length d → tail_of (e ∷ d) (suc (length d)) ≡ tail_of (e ∷ d) n → ⊥
newest_apart e d f v apart n h q =
    let top = sym (tail_top e d) ∙ q ∙ tail_below e d n h in
    split (eqb n 0)
    (λ t. let z : branch_of d e ∷ tail_of d e.next ≡ [] = top ∙ ap (tail_of d) (eqb-true n 0 t) ∙ tail_zero d in
    let c : ◌≡◌ {A = ℕ} 0 1 = cc in omega arith)
    (λ t.
    let k = eqb-false n 0 t in
    let r = entry_named d v n (omega arith) h in
    let i = same-entry d v apart e r.entry f.child-known f.next_known r.child-known r.next_known (top ∙ r.is) in
    f.new (subst (λ x. Memᴰ x d) (sym i) r.on-shelf))

pub tails-apart : (d : Shelf) → SoundShelf d → (m n : ℕ) → m ≤ length d → n ≤ length d → tail_of d m ≡ tail_of d n → m ≡ n
tails-apart [] v m n h k q = omega arith
tails-apart (e ∷ d) v m n h k q =
    let rest = tails-apart d v.1 in
    top_or_below d m h
    (λ t. top_or_below d n k
    (λ u. t ∙ sym u)
    (λ u. absurd (newest_apart e d v.0 v.1 rest n u (ap (tail_of (e ∷ d)) (sym t) ∙ q))))
    (λ t. top_or_below d n k
    (λ u. absurd (newest_apart e d v.0 v.1 rest m t (ap (tail_of (e ∷ d)) (sym u) ∙ sym q)))
    (λ u. rest m n t u (sym (tail_below e d m t) ∙ q ∙ tail_below e d n u)))

-- "no two of these hold the same words"
pub words-apart : (d : Shelf) → SoundShelf d → (m n : ℕ) → m ≤ length d → n ≤ length d → number_words d m ≡ number_words d n → m ≡ n
words-apart d v m n h k e = tails-apart d v m n h k (sym (branches_at d v m h) ∙ ap branches e ∙ branches_at d v n k)
