-- The branches of a run: together they are its words, their tiles ascend, and what follows a tile is shorter and ascends.
use Rattle.std.specs.Prelude.{◌≡◌, refl, Bool, false, ℕ, suc, ◌≤◌, ◌<◌, eqb}
use Rattle.std.proofs.Common.{sym, ap, ◌∙◌, subst, true≢false, ⊎_elim, arith, eqb-true}
use Rattle.std.proofs.Math.Bool.{true}
use mathlib.Core.List.Memᴰ
use mathlib.Core.List.{List, [], ◌∷◌, ◌++◌, map, Memᴰ}
use Rattle.std.proofs.lemmas.Bool.{eqb-false}
use Rattle.std.proofs.Math.ListN.{length}
use Rattle.laws.specs.Cases.{split}
use Rattle.laws.specs.Lists.{All, all_mem, all_members, all_weaken, is_empty, has_entries, filtered, some_of, join_all}
use Rattle.laws.specs.Members.{in_map, map_in, in_filtered, filtered_in, join_in}
use Rattle.graph.specs.Words.{Word}
use Rattle.graph.specs.Order.{◌≺◌, prefix, lower, later, Ascending}
use Rattle.graph.specs.OrderLaws.{≺-cons, ascending-left, ascending-right, ascending-under}
use Rattle.built.specs.Branches.{Branch, branch, branches_with, branches, tile_alone, onward, onwards}
use Rattle.built.specs.Lexicon.{ListWord, Lexicon}

-- ---- a branch's words, and those of all
abbrev pub words_of : Branch → List Word
words_of b = map (b.first ∷◌) b.rests

abbrev pub words_of_all : List Branch → List Word
words_of_all bs = join_all (map words_of bs)

pub with-word-words : (t : ℕ) (u : Word) (bs : List Branch) → words_of_all (branches_with t u bs) ≡ (t ∷ u) ∷ words_of_all bs
unfolding branches_with
with-word-words t u [] = refl
with-word-words t u (b ∷ bs) =
    split (eqb t b.first)
    (λ e. rw (e, branches_with) (ap (λ n. (t ∷ u) ∷ (map (n ∷◌) b.rests ++ words_of_all bs)) (eqb-true t b.first e)))
    (λ e. rw (e, branches_with))

abbrev pub HasTile : Word → Type 0
HasTile w = 1 ≤ length w

pub branches-words : (ws : List Word) → All HasTile ws → words_of_all (branches ws) ≡ ws
unfolding branches
branches-words [] h = refl
branches-words ([] ∷ ws) h = absurd (let k = h.0 in omega arith)
branches-words ((t ∷ u) ∷ ws) h = with-word-words t u (branches ws) ∙ ap ((t ∷ u) ∷◌) (branches-words ws h.1)

-- ---- tiles ascend
-- the first tile of the first branch is t or more
abbrev From : ℕ → List Branch → Type 0
From t [] = Unit
From t (b ∷ bs) = t ≤ b.first

abbrev pub Climbing : List Branch → Type 0
Climbing [] = Unit
Climbing (b ∷ []) = Unit
Climbing (b ∷ c ∷ bs) = (b.first < c.first) × Climbing (c ∷ bs)

with-word-from : (t s : ℕ) (u : Word) (bs : List Branch) → s ≤ t → From s (branches_with t u bs)
unfolding branches_with
with-word-from t s u [] h = h
with-word-from t s u (b ∷ bs) h = split (eqb t b.first) (λ e. rw (e, branches_with) h) (λ e. rw (e, branches_with) h)

Climbing_tail : (b c : Branch) (bs : List Branch) → b.first ≡ c.first → Climbing (b ∷ bs) → Climbing (c ∷ bs)
Climbing_tail b c [] e h = tt
Climbing_tail b c (d ∷ bs) e h = (subst (λ n. n < d.first) e h.0, h.1)

with-word_climbs : (t : ℕ) (u : Word) (bs : List Branch) → From t bs → Climbing bs → Climbing (branches_with t u bs)
unfolding branches_with
with-word_climbs t u [] f c = tt
with-word_climbs t u (b ∷ bs) f c =
    split (eqb t b.first)
    (λ e. rw (e, branches_with) (Climbing_tail b (branch t (u ∷ b.rests)) bs (sym (eqb-true t b.first e)) c))
    (λ e. let n = eqb-false t b.first e in let l : t < b.first = omega arith in rw (e, branches_with) (l, c))

-- a word above another begins with its first tile or a higher one
above_from : {t a : ℕ} {u x : Word} → (t ∷ u) ≺ (a ∷ x) → t ≤ a
above_from {t} {a} {u} {x} h = ⊎_elim (λ (l : t < a). omega arith) (λ (l : (t ≡ a) × (u ≺ x)). let e = l.0 in omega arith) (≺-cons h)

branches-from : (ws : List Word) (t : ℕ) (u : Word) → All HasTile ws → All ((t ∷ u) ≺◌) ws → From t (branches ws)
unfolding branches
branches-from [] t u h a = tt
branches-from ([] ∷ ws) t u h a = absurd (let k = h.0 in omega arith)
branches-from ((s ∷ x) ∷ ws) t u h a = with-word-from s t x (branches ws) (above_from a.0)

pub branches-climb : (ws : List Word) → All HasTile ws → Ascending ws → Climbing (branches ws)
unfolding branches
branches-climb [] h a = tt
branches-climb ([] ∷ ws) h a = absurd (let k = h.0 in omega arith)
branches-climb ((t ∷ u) ∷ ws) h a =
    with-word_climbs t u (branches ws) (branches-from ws t u h.1 a.0) (branches-climb ws h.1 a.1)

-- ---- what follows a tile ascends
branch-ascends : (bs : List Branch) → Ascending (words_of_all bs) → (b : Branch) → Memᴰ b bs → Ascending b.rests
branch-ascends [] a b m = absurd (Memᴰ.not-nil m)
branch-ascends (c ∷ bs) a b m =
    ⊎_elim
    (λ i. subst (λ d. Ascending d.rests) (sym i) (ascending-under c.first c.rests (ascending-left (words_of c) (words_of_all bs) a)))
    (λ k. branch-ascends bs (ascending-right (words_of c) (words_of_all bs) a) b k)
    (Memᴰ.cases_cons m)

-- ---- the words after a tile: the empty one first, where there is one, and then the onward ones
abbrev pub empty_word : Bool → List Word
empty_word true = [] ∷ []
empty_word false = []

pub none-empty : (us : List Word) → All HasTile us → some_of is_empty us ≡ false
none-empty [] h = refl
none-empty ([] ∷ us) h = absurd (let k = h.0 in omega arith)
none-empty ((t ∷ u) ∷ us) h = none-empty us h.1

pub all-filled : (us : List Word) → All HasTile us → filtered has_entries us ≡ us
all-filled [] h = refl
all-filled ([] ∷ us) h = absurd (let k = h.0 in omega arith)
all-filled ((t ∷ u) ∷ us) h = ap ((t ∷ u) ∷◌) (all-filled us h.1)

above-tile : {w v : Word} → w ≺ v → HasTile v
above-tile prefix = omega arith
above-tile (lower l) = omega arith
above-tile (later l) = omega arith

all-above-tile : (w : Word) (us : List Word) → All (w ≺◌) us → All HasTile us
all-above-tile w us = all_weaken (w ≺◌) HasTile (λ v h. above-tile h) us

pub rests-split : (us : List Word) → Ascending us → us ≡ empty_word (some_of is_empty us) ++ filtered has_entries us
rests-split [] a = refl
rests-split ([] ∷ us) a = ap ([] ∷◌) (sym (all-filled us (all-above-tile [] us a.0)))
rests-split ((t ∷ u) ∷ us) a =
    let h = all-above-tile (t ∷ u) us a.0 in
    rw (none-empty us h) (ap ((t ∷ u) ∷◌) (sym (all-filled us h)))

-- ---- a run of a lexicon leads to lexicons of shorter words
filled-some : (w : Word) → has_entries w ≡ true → 1 ≤ length w
filled-some [] e = absurd (true≢false (sym e))
filled-some (t ∷ w) e = omega arith

abbrev pub TileFits : Branch → Type 0
TileFits b = (1 ≤ b.first) × (b.first < 64)

with-word-tiles : (t : ℕ) (u : Word) (bs : List Branch) → (1 ≤ t) × (t < 64) → All TileFits bs → All TileFits (branches_with t u bs)
unfolding branches_with
with-word-tiles t u [] h a = (h, tt)
with-word-tiles t u (b ∷ bs) h a = split (eqb t b.first) (λ e. rw (e, branches_with) (h, a.1)) (λ e. rw (e, branches_with) (h, a))

branches-tiles : (k : ℕ) (ws : List Word) → All (ListWord k) ws → All TileFits (branches ws)
unfolding branches
branches-tiles k [] h = tt
branches-tiles k ([] ∷ ws) h = branches-tiles k ws h.1
branches-tiles k ((t ∷ u) ∷ ws) h = with-word-tiles t u (branches ws) h.0.tiles.0 (branches-tiles k ws h.1)

with-word-some : (t : ℕ) (u : Word) (bs : List Branch) → 0 < length (branches_with t u bs)
unfolding branches_with
with-word-some t u [] = omega arith
with-word-some t u (b ∷ bs) = split (eqb t b.first) (λ e. rw (e, branches_with) (omega arith)) (λ e. rw (e, branches_with) (omega arith))

module _ (k : ℕ) (ws : List Word) (lex : Lexicon k ws) where
  pub all-some : All HasTile ws
  all-some = all_members HasTile ws (λ w m. (all_mem (ListWord k) ws w lex.fine m).some)

  pub branch-tile : (b : Branch) → Memᴰ b (branches ws) → TileFits b
  branch-tile b m = all_mem TileFits (branches ws) b (branches-tiles k ws lex.fine) m

  pub branch-rests : (b : Branch) → Memᴰ b (branches ws) → Ascending b.rests
  branch-rests = branch-ascends (branches ws) (subst Ascending (sym (branches-words ws all-some)) lex.ascending)

  branch-word : (b : Branch) → Memᴰ b (branches ws) → (u : Word) → Memᴰ u b.rests → Memᴰ (b.first ∷ u) ws
  branch-word b m u n =
      subst (Memᴰ (b.first ∷ u)) (branches-words ws all-some)
      (join_in words_of (branches ws) b (b.first ∷ u) m (map_in (b.first ∷◌) b.rests u n))

  pub branches-some : has_entries ws ≡ true → 0 < length (branches ws)
  unfolding branches
  branches-some e = nonempty ws e lex.fine
    where
      nonempty : (xs : List Word) → has_entries xs ≡ true → All (ListWord k) xs → 0 < length (branches xs)
      nonempty [] e h = absurd (true≢false (sym e))
      nonempty ([] ∷ xs) e h = absurd (let n = h.0.some in omega arith)
      nonempty ((t ∷ u) ∷ xs) e h = with-word-some t u (branches xs)

fine_tail : (k t : ℕ) (u : Word) → ListWord (suc k) (t ∷ u) → has_entries u ≡ true → ListWord k u
fine_tail k t u f e = let s = f.short in record { some = filled-some u e; short = omega arith; tiles = f.tiles.1 }

module _ (k : ℕ) (ws : List Word) (lex : Lexicon (suc k) ws) where
  pub onward-lexicon : (b : Branch) → Memᴰ b (branches ws) → Lexicon k (onward b)
  onward-lexicon b m =
      let a = branch-rests (suc k) ws lex b m in
      record {
        ascending = ascending-right (empty_word (tile_alone b)) (onward b) (subst Ascending (rests-split b.rests a) a);
        fine = all_members (ListWord k) (onward b) (λ u n.
            let r = in_filtered has_entries b.rests u n in
            fine_tail k b.first u (all_mem (ListWord (suc k)) ws (b.first ∷ u) lex.fine (branch-word (suc k) ws lex b m u r.0)) r.1);
      }

  pub onwards-lexicon : (us : List Word) → Memᴰ us (onwards ws) → Lexicon k us × (has_entries us ≡ true)
  unfolding onwards
  onwards-lexicon us m =
      let r = in_filtered has_entries (map onward (branches ws)) us m in
      let s = in_map onward (branches ws) us r.0 in
      (subst (Lexicon k) (sym s.2) (onward-lexicon s.0 s.1), r.1)

pub in_onwards : (ws : List Word) (b : Branch) → Memᴰ b (branches ws) → has_entries (onward b) ≡ true → Memᴰ (onward b) (onwards ws)
unfolding onwards
in_onwards ws b m e = filtered_in has_entries (map onward (branches ws)) (onward b) (map_in onward (branches ws) b m) e

pub lexicon-longer : (k j : ℕ) (ws : List Word) → k ≤ j → Lexicon k ws → Lexicon j ws
lexicon-longer k j ws h lex =
    record {
      ascending = lex.ascending;
      fine = all_weaken (ListWord k) (ListWord j) (λ w f. let s = f.short in record { some = f.some; short = omega arith; tiles = f.tiles }) ws lex.fine;
    }
