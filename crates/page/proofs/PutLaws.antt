-- The parts of a page, put one after the other; those of a row, put over its blanks.
use mathlib.Core.Path.{◌≡◌, refl, sym, ap, ◌∙◌, subst}
use mathlib.Core.Logic.{inl}
use mathlib.Core.List.{List, [], ◌∷◌, ◌++◌, map, append_assoc}
use Prim.Native.Nat.{ℕ, zero, suc, ◌+◌, ◌-◌, ◌*◌, ◌≤◌}
use native.Mathlib.Nat.{zero-mul, suc-mul}
use native.Mathlib.Omega.{arith}
use lib.ListN.{length, set, replicate, length-append, length-map, length-replicate, replicate-append-replicate}
use lib.Seq.{sets, set-set, append_snoc}
use Rattle.laws.specs.Lists.{join_all, join_append}
use Rattle.laws.specs.ListWrites.{sets_append, sets-apart}
use Rattle.decimal.specs.Decimal.{decimal}
use Rattle.endian.specs.Puts.{Puts}
use Rattle.page.specs.Rows.{Widths, ShownWord, word_rows, blank, blanks, left_aligned, right_aligned, more_mark, label_of, row_length}
use Rattle.page.specs.Rows.{number_column, word_column, row_of, blank_row, page_rows, page_text}
use Rattle.page.specs.RowsLaws.{HasRoom, left-length, right-length}

-- ---- blanks
blanks-parts : (m n k : ℕ) (q : List ℕ) → m + n ≡ k → blanks k ++ q ≡ blanks m ++ (blanks n ++ q)
blanks-parts m n k q e =
    ap (λ i. blanks i ++ q) (sym e) ∙ ap (◌++ q) (sym (replicate-append-replicate m n blank)) ∙ append_assoc (blanks m) (blanks n) q

-- ---- bytes put over some of those that were put
sets_over : (b b' q l : List ℕ) (i : ℕ) → length b ≡ length b' → sets (sets l i (b ++ q)) i b' ≡ sets l i (b' ++ q)
sets_over [] [] q l i e = refl
sets_over [] (y ∷ b') q l i e = absurd (omega (arith, e))
sets_over (x ∷ b) [] q l i e = absurd (omega (arith, e))
sets_over (x ∷ b) (y ∷ b') q l i e =
    ap (λ (m : List ℕ). sets m (suc i) b')
    (sets-apart (b ++ q) (set l i x) (suc i) i y (inl (omega arith)) ∙ ap (λ (m : List ℕ). sets m (suc i) (b ++ q)) (set-set l i x y))
    ∙ sets_over b b' q (set l i y) (suc i) (omega (arith, e))

module _ {before mid after : List ℕ} {at from to end : ℕ} where
  -- as many as those that they are put over
  put_over : (p b b' q : List ℕ) → length b ≡ length b' → from ≡ at + length p → Puts (p ++ (b ++ q)) before at mid end
      → Puts b' mid from after to → Puts (p ++ (b' ++ q)) before at after end
  put_over p b b' q same e whole part =
      record {
        place =
            omega (arith, whole.place, same, length-append p (b ++ q), length-append p (b' ++ q), length-append b q, length-append b' q);
        stored =
            rw (part.stored, whole.stored, e)
            (ap (λ (m : List ℕ). sets m (at + length p) b') (sets_append before at p (b ++ q))
            ∙ sets_over b b' q (sets before at p) (at + length p) same
            ∙ sym (sets_append before at p (b' ++ q)));
      }

  -- a text over blanks, at their end or at their beginning
  put_right : (k : ℕ) (text q : List ℕ) → length text ≤ k → to ≡ at + k → Puts (blanks k ++ q) before at mid end → Puts text mid from after to
      → Puts (right_aligned k text ++ q) before at after end
  put_right k text q fits e whole part =
      let free = k - length text in
      rw (append_assoc (blanks free) text q)
      (put_over (blanks free) (blanks (length text)) text q
      (length-replicate (length text) blank)
      (omega (arith, part.place, e, length-replicate free blank))
      (subst (λ t. Puts t before at mid end) (blanks-parts free (length text) k q (omega arith)) whole)
      part)

  put-left : (k : ℕ) (p text q : List ℕ) → length text ≤ k → from ≡ at + length p → Puts (p ++ (blanks k ++ q)) before at mid end
      → Puts text mid from after to → Puts (p ++ (left_aligned k text ++ q)) before at after end
  put-left k p text q fits e whole part =
      let free = k - length text in
      rw (append_assoc text (blanks free) q)
      (put_over p (blanks (length text)) text (blanks free ++ q)
      (length-replicate (length text) blank)
      e
      (subst (λ t. Puts (p ++ t) before at mid end) (blanks-parts (length text) free k q (omega arith)) whole)
      part)

-- ---- a row: blanks, and over them the number, the labels and the last column
module _ (w : Widths) where
  blank-row-parts : blank_row w ≡ blanks w.number ++ blank ∷ (blanks w.word ++ blank ∷ [])
  blank-row-parts =
      let e : w.number + suc (w.word + 1) ≡ row_length w = omega arith in
      sym (ap (λ (t : List ℕ). blanks w.number ++ blank ∷ t) (replicate-append-replicate w.word 1 blank)
      ∙ replicate-append-replicate w.number (suc (w.word + 1)) blank
      ∙ ap blanks e)

  module _ (labels : List ℕ) (e : ShownWord) (room : HasRoom w e) where
    abbrev number : List ℕ
    number = number_column w e.number

    abbrev shown : List ℕ
    shown = map (label_of labels) e.tiles

    abbrev column : List ℕ
    column = word_column w labels e.tiles

    number-long : length number ≡ w.number
    number-long = right-length w.number (decimal e.number) room.digits

    gap_long : length (number ++ blank ∷ []) ≡ w.number + 1
    gap_long = omega (arith, length-append number (blank ∷ []), number-long)

    shown-fit : length shown ≤ w.word
    shown-fit = omega (arith, length-map e.tiles (label_of labels), room.tiles)

    module _ {l₀ l₁ l₂ l₃ l₄ : List ℕ} {at digits word last end mark : ℕ} where
      pub row_put : Puts (blank_row w) l₀ at l₁ end → Puts (decimal e.number) l₁ digits l₂ (at + w.number)
          → Puts shown l₂ (at + (w.number + 1)) l₃ word → mark ≡ more_mark e.more
          → Puts (mark ∷ []) l₃ (at + (w.number + 1 + w.word)) l₄ last → Puts (row_of w labels e) l₀ at l₄ end
      row_put p₀ p₁ p₂ m p₃ =
          let before = number ++ blank ∷ [] in
          let q₀ = subst (λ t. Puts t l₀ at l₁ end) blank-row-parts p₀ in
          let q₁ = put_right w.number (decimal e.number) (blank ∷ (blanks w.word ++ blank ∷ [])) room.digits refl q₀ p₁ in
          let q₂ = put-left w.word before shown (blank ∷ []) shown-fit (ap (at +◌) (sym gap_long))
          (subst (λ t. Puts t l₀ at l₂ end) (sym (append_snoc number blank (blanks w.word ++ blank ∷ []))) q₁) p₂ in
          let q₃ = put_over (before ++ column) (blank ∷ []) (mark ∷ []) [] refl
          (omega (arith, length-append before column, gap_long, left-length w.word shown shown-fit))
          (subst (λ t. Puts t l₀ at l₃ end) (sym (append_assoc before column (blank ∷ []))) q₂) p₃ in
          subst (λ t. Puts t l₀ at l₄ end)
          (append_assoc before column (mark ∷ []) ∙ append_snoc number blank (column ++ mark ∷ [])
          ∙ ap (λ i. number ++ blank ∷ (column ++ i ∷ [])) m)
          q₃

-- ---- the page
-- rows of blanks are blanks
joined-blanks : (rows n : ℕ) → join_all (replicate rows (blanks n)) ≡ blanks (rows * n)
joined-blanks zero n = rw zero-mul
joined-blanks (suc rows) n =
    let e : n + rows * n ≡ suc rows * n = omega (arith, suc-mul rows n) in
    ap (blanks n ++◌) (joined-blanks rows n) ∙ replicate-append-replicate n (rows * n) blank ∙ ap blanks e

module _ (w : Widths) (labels title : List ℕ) (es : List ShownWord) where
  -- what is left of it after the title, and after its blanks
  abbrev pub after_rows : List ℕ
  after_rows = blanks ((word_rows - length es) * row_length w)

  abbrev pub after_title : List ℕ
  after_title = join_all (map (row_of w labels) es) ++ after_rows

  pub page-parts : page_text w labels title es ≡ title ++ (blanks (row_length w - length title) ++ after_title)
  unfolding page_rows
  page-parts =
      append_assoc title (blanks (row_length w - length title)) _
      ∙ ap (λ (l : List ℕ). title ++ (blanks (row_length w - length title) ++ l))
      (join_append (map (row_of w labels) es) _ ∙ ap (join_all (map (row_of w labels) es) ++◌) (joined-blanks (word_rows - length es) (row_length w)))
