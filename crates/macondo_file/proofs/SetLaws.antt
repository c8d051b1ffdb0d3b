-- A set of letters has just the letters of its block's nodes that end a word, fits in 64 bits, and is read back as those letters.
use Rattle.std.specs.Prelude.{◌≡◌, true, ◌≢◌, ℕ, zero, suc, ◌^◌, ◌≤◌, ◌<◌, eqb, length}
use Rattle.std.proofs.Common.{sym, ap, ◌∙◌, ⊎_elim, arith, eqb-true}
use mathlib.Core.List.{List, [], ◌∷◌, map}
use mathlib.Core.List.Memᴰ
use mathlib.Core.List.{Memᴰ}
use Rattle.std.proofs.lemmas.Bool.{eqb-false}
use Rattle.laws.specs.Bits.{has_bit}
use Rattle.laws.specs.BitSets.{bit-set-bit, bit-set-below}
use Rattle.laws.specs.Cases.{split}
use Rattle.laws.specs.Lists.{filtered}
use Rattle.laws.specs.Members.{member_mem, mem_member, in_map, map_in, in_filtered, filtered_in}
use Rattle.node.specs.Nodes.{kbwg, tile}
use Rattle.graph.specs.Runs.{Graph}
use Rattle.graph.specs.Words.{Word}
use Rattle.export.specs.Starts.{run_of}
use Rattle.macondo_file.specs.Alphabet.{letter_at}
use Rattle.macondo_file.proofs.AlphabetLaws.{letter-most}
use Rattle.macondo_file.specs.File.{ends_in_letter, set_of}
use Rattle.macondo_file.specs.Reading.{set_words}

module _ (g : Graph) (labels : List ℕ) where
  abbrev enders : ℕ → List ℕ
  enders p = filtered (ends_in_letter) (run_of g p)

  pub in_set : (p r : ℕ) → has_bit (set_of g labels p) r ≡ true
      → (v : ℕ) × Memᴰ v (run_of g p) × (ends_in_letter v ≡ true) × (r ≡ letter_at labels v)
  unfolding set_of
  in_set p r e =
      let rs = map (letter_at labels) (enders p) in
      let m = in_map (letter_at labels) (enders p) r (member_mem r rs (sym (bit-set-bit rs r) ∙ e)) in
      let k = in_filtered (ends_in_letter) (run_of g p) m.0 m.1 in
      (m.0, k.0, k.1, m.2)

  pub set_in : (p v : ℕ) → Memᴰ v (run_of g p) → ends_in_letter v ≡ true
      → has_bit (set_of g labels p) (letter_at labels v) ≡ true
  unfolding set_of
  set_in p v m e =
      bit-set-bit (map (letter_at labels) (enders p)) (letter_at labels v)
      ∙ mem_member (letter_at labels v) (map (letter_at labels) (enders p)) (map_in (letter_at labels) (enders p) v (filtered_in (ends_in_letter) (run_of g p) v m e))

  pub set_below : length labels ≤ 50 → (p : ℕ) → set_of g labels p < 2 ^ 64
  unfolding set_of
  set_below fifty p =
      bit-set-below 64 (map (letter_at labels) (enders p))
      (λ t m. let r = in_map (letter_at labels) (enders p) t m in let h = letter-most labels fifty (tile kbwg r.0) in let e = r.2 in omega arith)

-- ---- the letters read from a set
pub in_set-words : (n set : ℕ) (w : Word) → Memᴰ w (set_words n set) → (r : ℕ) × (r < n) × (has_bit set r ≡ true) × (w ≡ r ∷ [])
in_set-words zero set w m = absurd (Memᴰ.not-nil m)
in_set-words (suc n) set w m =
    ⊎_elim
    (λ i. let a = in_set-words n set w i in let h = a.1 in (a.0, omega arith, a.2, a.3))
    (λ i. split (has_bit set n)
    (λ t. (n, omega arith, t, Memᴰ.eq_of_singleton (rw t at i)))
    (λ t. absurd (Memᴰ.not-nil (rw t at i))))
    (Memᴰ.append_cases (set_words n set) m)

pub set-words_in : (n set r : ℕ) → r < n → has_bit set r ≡ true → Memᴰ (r ∷ []) (set_words n set)
set-words_in zero set r h e = absurd (omega arith)
set-words_in (suc n) set r h e =
    split (eqb r n)
    (λ t.
    let q = eqb-true r n t in
    let has : has_bit set n ≡ true = ap (has_bit set) (sym q) ∙ e in
    Memᴰ.append_right (set_words n set) (rw has (Memᴰ.head (ap (λ k. k ∷ []) q))))
    (λ t. let ne : r ≢ n = eqb-false r n t in Memᴰ.append_left _ (set-words_in n set r (omega arith) e))
