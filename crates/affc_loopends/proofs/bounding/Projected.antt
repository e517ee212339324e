-- What is left of a system is its projection.
use Rattle.std.proofs.Common.{◌≡◌, ℕ, zero, suc, ◌+◌, ◌/◌, ◌<◌, ◌≤◌, List, [], ◌∷◌, length, map, take, get_or, ℤ, pos, negsuc, neg_ℤ, ◌*ℤ◌, refl, sym, ap, subst, ◌∙◌, inl, inr, arith}
use Rattle.std.specs.Prelude.{◌⊎◌, ◌↔◌, unsigned_abs}
use Rattle.std.specs.List.{All, Contains}
use Prim.Native.Nat.{◌∣◌}
use Rattle.std.proofs.lemmas.Int.{ints}
use Rattle.std.proofs.lemmas.List.{length-map}
use Rattle.std.proofs.lemmas.List.Elements.{All-cons, All-head, All-tail, All-map, All-weaker, All-contains}
use Rattle.std.proofs.lemmas.Nat.Gcd.{dvd_trans}
use Rattle.affc_rows.specs.Forms.{Affine, HaveColumns}
use Rattle.affc_system.specs.Systems.{Meets}
use Rattle.affc_farkas.specs.Multiples.{entry_of}
use Rattle.affc_farkas.specs.Eliminations.{combined, coefficient}
use Rattle.affc_farkas.specs.declared.pair.Pair.{Pair}
use Rattle.affc_eliminate.specs.Mixtures.{forms_of}
use Rattle.affc_eliminate.specs.declared.kept.Kept.{Kept}
use Rattle.affc_eliminate.proofs.Values.{entry_last}
use Rattle.affc_eliminate.specs.project.Projections.{ExtendsWhole, IsRowOfTable, AreProjected, AreFrom}
use Rattle.affc_eliminate.specs.project.States.{AreZero, IsDivisor, IsBlank, IsLeast, AreReduced}
use Rattle.affc_eliminate.proofs.project.Leasts.{divisor_start, up_quotient, down_quotient, least_of, blank_of, reduced_none}
use Rattle.affc_eliminate.proofs.project.Points.{same_first, both_ways}
use Rattle.affc_loopends.proofs.bounding.Gcds.{gcd_of}
use Rattle.affc_loopends.proofs.bounding.Lists.{at_first, at_later, of_image}
use Rattle.affc_loopends.proofs.bounding.Sums.{sum_of, sum_wide, sum_entry}
use Rattle.affc_loopends.proofs.bounding.Columns.{stands}
use Rattle.affc_loopends.proofs.bounding.Left.{rows_of, Left, left_at}
use Rattle.affc_loopends.proofs.bounding.Numbers.{le_itself, le_from_lt, one_more, both_more}

-- ---- Least terms

divisor_of : (numbers : List ℤ) (last : ℤ) → (d : ℕ) × IsDivisor d numbers last
divisor_of [] last = (unsigned_abs last, divisor_start (unsigned_abs last) last refl)
divisor_of (n ∷ numbers) last =
    let r = divisor_of numbers last in
    let g = gcd_of (unsigned_abs n) r.0 in
    let h : IsDivisor g.0 (n ∷ numbers) last = record {
      divides = All-cons (λ m. g.0 ∣ unsigned_abs m) n numbers g.1.0 (All-weaker (λ m. r.0 ∣ unsigned_abs m) (λ m. g.0 ∣ unsigned_abs m) (λ m d. dvd_trans g.0 g.1.1 d) numbers r.1.divides);
      divides_last = dvd_trans g.0 g.1.1 r.1.divides_last;
      greatest = λ k all l. g.1.2 k (All-head (λ m. k ∣ unsigned_abs m) n numbers all) (r.1.greatest k (All-tail (λ m. k ∣ unsigned_abs m) n numbers all) l);
    } in
    (g.0, h)

quotient_of : (d : ℕ) (n : ℤ) → d ∣ unsigned_abs n → (q : ℤ) × (n ≡ pos d *ℤ q)
quotient_of d (pos m) h = (pos (m / d), up_quotient (pos m) d (m / d) (omega (arith, ints)) h refl)
quotient_of d (negsuc m) h = (neg_ℤ (pos (suc m / d)), down_quotient (negsuc m) d (suc m / d) (omega (arith, ints)) h refl)

quotients_of : (d : ℕ) (ns : List ℤ) → All (λ n. d ∣ unsigned_abs n) ns → (qs : List ℤ) × (ns ≡ map (λ z. pos d *ℤ z) qs)
quotients_of d [] h = ([], refl)
quotients_of d (n ∷ ns) h =
    let q = quotient_of d n (All-head (λ m. d ∣ unsigned_abs m) n ns h) in
    let r = quotients_of d ns (All-tail (λ m. d ∣ unsigned_abs m) n ns h) in
    (q.0 ∷ r.0, ap (λ z. z ∷ ns) q.1 ∙ ap (λ zs. (pos d *ℤ q.0) ∷ zs) r.1)

least_by : (keep : ℕ) (row : Affine) → keep ≤ length row.coefs → (d : ℕ) → IsDivisor d (take keep row.coefs) row.constant → IsBlank keep row ⊎ ((f : Affine) × IsLeast keep row f)
least_by keep row le zero h = inl (blank_of keep row 0 le refl h)
least_by keep row le (suc d) h =
    let qs = quotients_of (suc d) (take keep row.coefs) h.divides in
    let q = quotient_of (suc d) row.constant h.divides_last in
    let f : Affine = record { coefs = qs.0; constant = q.0 } in
    inr (f, least_of keep row f (suc d) le qs.1 q.1 (omega arith) h)

-- a row is 0 everywhere, or has least terms
pub least : (keep : ℕ) (row : Affine) → keep ≤ length row.coefs → IsBlank keep row ⊎ ((f : Affine) × IsLeast keep row f)
least keep row le = let d = divisor_of (take keep row.coefs) row.constant in least_by keep row le d.0 d.1

-- ---- All rows

-- the rows in least terms, no more than there are
pub record Reduction (keep : ℕ) (live : List Kept) : Type 0 where
  pub reduced : List Affine
  pub are : AreReduced keep live reduced
  pub few : length reduced ≤ length live

skip_one : (keep : ℕ) (k : Kept) (live : List Kept) → IsBlank keep k.row → Reduction keep live → Reduction keep (k ∷ live)
skip_one keep k live blank r =
    let In : List Kept → Affine → Type 0 = λ ks f. (q : Kept) × Contains ks q × IsLeast keep q.row f in
    let Out : Kept → Type 0 = λ q. IsBlank keep q.row ⊎ ((f : Affine) × Contains r.reduced f × IsLeast keep q.row f) in
    record {
      reduced = r.reduced;
      are = record {
        from = All-weaker (In live) (In (k ∷ live)) (λ f c. (c.0, at_later k c.0 live c.1, c.2)) r.reduced r.are.from;
        into = All-cons Out k live (inl blank) r.are.into;
      };
      few = one_more (length r.reduced) (length live) r.few;
    }

keep_one : (keep : ℕ) (k : Kept) (live : List Kept) (f : Affine) → IsLeast keep k.row f → Reduction keep live → Reduction keep (k ∷ live)
keep_one keep k live f h r =
    let In : List Kept → Affine → Type 0 = λ ks g. (q : Kept) × Contains ks q × IsLeast keep q.row g in
    let Out : List Affine → Kept → Type 0 = λ fs q. IsBlank keep q.row ⊎ ((g : Affine) × Contains fs g × IsLeast keep q.row g) in
    record {
      reduced = f ∷ r.reduced;
      are = record {
        from = All-cons (In (k ∷ live)) f r.reduced (k, at_first k live, h) (All-weaker (In live) (In (k ∷ live)) (λ g c. (c.0, at_later k c.0 live c.1, c.2)) r.reduced r.are.from);
        into = All-cons (Out (f ∷ r.reduced)) k live (inr (f, at_first f r.reduced, h)) (All-weaker (Out r.reduced) (Out (f ∷ r.reduced)) (λ q o. grown q o) live r.are.into);
      };
      few = both_more (length r.reduced) (length live) r.few;
    }
  where
    grown : (q : Kept) → IsBlank keep q.row ⊎ ((g : Affine) × Contains r.reduced g × IsLeast keep q.row g) → IsBlank keep q.row ⊎ ((g : Affine) × Contains (f ∷ r.reduced) g × IsLeast keep q.row g)
    grown q (inl blank) = inl blank
    grown q (inr c) = inr (c.0, at_later f c.0 r.reduced c.1, c.2)

pub reduce : (keep : ℕ) (live : List Kept) → All (λ k. keep ≤ length k.row.coefs) live → Reduction keep live
reduce keep [] h = record { reduced = []; are = reduced_none keep; few = omega arith }
reduce keep (k ∷ live) h =
    let r = reduce keep live (All-tail (λ q. keep ≤ length q.row.coefs) k live h) in
    elim (least keep k.row (All-head (λ q. keep ≤ length q.row.coefs) k live h)) [
      | inl blank ↦ skip_one keep k live blank r
      | inr f ↦ keep_one keep k live f.0 f.1 r
    ]

-- ---- The projection

-- the pairs and the rows of a projection, without a limit
pub record Projection (columns : ℕ) (rows : List Affine) (keep : ℕ) : Type 0 where
  pub made : List Pair
  pub projected : List Affine
  pub are : AreProjected columns rows keep made projected
  pub later : AreFrom keep made
  pub few : length projected ≤ length rows + length made

abbrev row_with : (columns : ℕ) → List Affine → List ℕ → Kept
row_with columns rows w = record { row = sum_of columns rows w; from = []; number = 0 }

same_forms : (columns : ℕ) (rows : List Affine) (live : List (List ℕ)) → forms_of (map (row_with columns rows) live) ≡ rows_of columns rows live
same_forms columns rows [] = refl
same_forms columns rows (w ∷ live) = ap (λ fs. sum_of columns rows w ∷ fs) (same_forms columns rows live)

weaker : (j n k : ℕ) → j < n → n ≤ k → j ≤ k
weaker j n k h le = omega arith

in_table : (columns : ℕ) (rows : List Affine) (keep : ℕ) (v : Left columns rows keep) (w : List ℕ) (f : Affine) → keep ≤ columns → Contains v.live w → IsLeast keep (sum_of columns rows w) f → IsRowOfTable keep columns rows v.table f
in_table columns rows keep v w f le c h =
    let t = All-contains (Contains v.table) v.live w v.live_in c in
    let at : (j : ℕ) → coefficient rows v.table t.0 j ≡ combined rows w j = λ j. ap (λ ws. combined rows ws j) (stands v.table w t).1 in
    record {
      number = t.0;
      there = t.1;
      zeros = λ j ge lt. at j ∙ All-contains (λ x. combined rows x j ≡ pos 0) v.live w (v.zeros j ge lt) c;
      terms = record {
        divisor = h.divisor;
        positive = h.positive;
        width = h.width;
        coefs = λ j lt. at j ∙ sym (sum_entry columns rows w j (weaker j keep columns lt le)) ∙ h.coefs j lt;
        last = at columns ∙ sym (sum_entry columns rows w columns (le_itself columns)) ∙ entry_last (sum_of columns rows w) columns (sum_wide columns rows w) ∙ h.last;
        least = h.least;
      };
    }

in_all : (a b c d : ℕ) → a ≤ b → b ≡ c → c ≤ d → a ≤ d
in_all a b c d h e k = omega arith

projection_of : (columns : ℕ) (rows : List Affine) (keep : ℕ) → keep ≤ columns → Left columns rows keep → Projection columns rows keep
projection_of columns rows keep le v =
    let ks = map (row_with columns rows) v.live in
    let wide : All (λ k. length k.row.coefs ≡ columns) ks = All-map (λ k. length k.row.coefs ≡ columns) (row_with columns rows) v.live (λ i d lt. sum_wide columns rows (get_or v.live i d)) in
    let r = reduce keep ks (All-weaker (λ k. length k.row.coefs ≡ columns) (λ k. keep ≤ length k.row.coefs) (λ k e. subst (λ n. keep ≤ n) (sym e) le) ks wide) in
    let zeros : (j : ℕ) → keep ≤ j → j < columns → AreZero j ks = λ j ge lt. All-map (λ k. entry_of k.row j ≡ pos 0) (row_with columns rows) v.live
    (All-weaker (λ w. combined rows w j ≡ pos 0) (λ w. entry_of (sum_of columns rows w) j ≡ pos 0) (λ w e. sum_entry columns rows w j (le_from_lt j columns lt) ∙ e) v.live (v.zeros j ge lt)) in
    record {
      made = v.made;
      projected = r.reduced;
      are = record {
        table = v.table;
        is_table = v.is_table;
        rows_of_table = All-weaker (λ f. (q : Kept) × Contains ks q × IsLeast keep q.row f) (IsRowOfTable keep columns rows v.table)
            (λ f c.
            let w = of_image (row_with columns rows) v.live c.0 c.1 in
            in_table columns rows keep v w.0 f le w.1 (subst (λ (q : Kept). IsLeast keep q.row f) (sym w.2) c.2)) r.reduced r.are.from;
        same_points = λ whole l. both_ways (All (Meets whole) r.reduced) (ExtendsWhole columns (rows_of columns rows v.live) whole) (ExtendsWhole columns rows whole)
            (subst (λ fs. All (Meets whole) r.reduced ↔ ExtendsWhole columns fs whole) (same_forms columns rows v.live) (same_first columns keep ks r.reduced le wide zeros r.are whole l))
            (v.same_points whole (as_long (length whole) keep l));
      };
      later = All-weaker (λ q. (keep ≤ q.column) × (q.column < columns)) (λ q. keep ≤ q.column) (λ q h. h.0) v.made v.later;
      few = in_all (length r.reduced) (length ks) (length v.live) (length rows + length v.made) r.few (length-map v.live (row_with columns rows)) v.few;
    }
  where
    as_long : (n k : ℕ) → n ≡ k → n ≤ k
    as_long n k e = omega arith

pub projection : (columns : ℕ) (rows : List Affine) (keep : ℕ) → HaveColumns columns rows → keep ≤ columns → Projection columns rows keep
projection columns rows keep w le = projection_of columns rows keep le (left_at columns rows keep w le)
