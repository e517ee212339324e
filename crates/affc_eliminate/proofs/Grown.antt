-- What one row more and one pair more want, and give.
use Rattle.std.proofs.Common.{◌≡◌, ◌≢◌, ℕ, ◌+◌, ◌<◌, ◌≤◌, Bool, List, [], ◌∷◌, ◌++◌, length, get_or, ℤ, pos, neg_ℤ, ◌<ℤ◌, refl, sym, ap, subst, ◌∙◌, arith}
use Rattle.std.specs.List.{All, Contains}
use Rattle.std.specs.Prelude.{Result, Ok, Err, IfOk}
use Rattle.std.proofs.lemmas.Int.{ints}
use Rattle.std.proofs.lemmas.List.{get_or_default}
use Rattle.std.proofs.lemmas.List.Elements.{All-weaker, All-contains_itself}
use Rattle.affc_rows.specs.Forms.{Affine}
use Rattle.affc_farkas.specs.Multiples.{entry_of}
use Rattle.affc_farkas.specs.declared.pair.Pair.{Pair}
use Rattle.affc_eliminate.specs.Mixtures.{IsMixture, IsWide}
use Rattle.affc_eliminate.specs.Steps.{AreReady, IsTooWide}
use Rattle.affc_eliminate.specs.Sieves.{AreAdmitted}
use Rattle.affc_eliminate.specs.Works.{IsAt, pair_of, IsWork, IsGrown, AreOpposite}
use Rattle.affc_eliminate.specs.declared.kept.Kept.{Kept}
use Rattle.affc_eliminate.specs.declared.work.Work.{Work}
use Rattle.affc_eliminate.proofs.Exactness.{opposite_entry}
use Rattle.affc_eliminate.proofs.Added.{each_form, same_at, contains_at}
use Rattle.affc_eliminate.proofs.Works.{widths_beside, next_pair, work_pair, work_wide, flats_stay}

pub read_at : (rows : List Kept) (i : ℕ) (d : Kept) → i < length rows → IsAt rows i (get_or rows i d)
read_at rows i d lt = (lt, get_or_default rows i (get_or rows i d) d lt)

pub read_in : (rows : List Kept) (i : ℕ) (d : Kept) → i < length rows → Contains rows (get_or rows i d)
read_in rows i d lt = (i, lt, get_or_default rows i (get_or rows i d) d lt)

pub own_width : (rows : List Kept) (column free : ℕ) (k : Kept) (ready : AreReady rows column free) → Contains rows k → length k.row.coefs ≡ ready.columns
own_width rows column free k ready c = each_form (λ f. length f.coefs ≡ ready.columns) rows k ready.widths c

within : (a b c : ℕ) → a < b → c ≡ b → a ≤ c
within a b c h e = omega arith

pub column_in_row : (rows : List Kept) (column free : ℕ) (k : Kept) → AreReady rows column free → Contains rows k → column ≤ length k.row.coefs
column_in_row rows column free k ready c = within column ready.columns (length k.row.coefs) ready.column_in (own_width rows column free k ready c)

pub flat_widths : (Answers : Affine → Affine → Bool → Type 0) (rows : List Kept) (column free : ℕ) (k : Kept) (kept : List Kept) (made : List Pair) → AreReady rows column free → IsWork Answers rows column free kept made
    → Contains rows k → All (λ q. length q.row.coefs ≡ length k.row.coefs) kept
flat_widths Answers rows column free k kept made ready work c = widths_beside Answers rows column free ready.columns kept made k.row ready.widths work (own_width rows column free k ready c)

pub mixture_widths : (Answers : Affine → Affine → Bool → Type 0) (rows : List Kept) (column free : ℕ) (f g n : Kept) (kept : List Kept) (made : List Pair) → AreReady rows column free
    → IsWork Answers rows column free kept made → Contains rows f → IsMixture column f g n → All (λ q. length q.row.coefs ≡ length n.row.coefs) kept
mixture_widths Answers rows column free f g n kept made ready work c m =
    widths_beside Answers rows column free ready.columns kept made n.row ready.widths work (m.rows.width ∙ own_width rows column free f ready c)

pub grown : (Answers : Affine → Affine → Bool → Type 0) (rows : List Kept) (column free : ℕ) (f g n : Kept) (old new : Work) → AreReady rows column free
    → IsWork Answers rows column free old.kept.items old.made.items → Contains rows f → Contains rows g → pos 0 <ℤ entry_of f.row column → entry_of g.row column <ℤ pos 0
    → All (λ q. q ≢ pair_of column f g) old.made.items → IsMixture column f g n → All (λ p. p.0 < 1024) n.from → n.number ≡ free + length old.made.items
    → AreAdmitted Answers old.kept.items n new.kept.items → new.made.items ≡ old.made.items ++ pair_of column f g ∷ [] → IsGrown Answers rows column free f g old new
grown Answers rows column free f g n old new ready work cf cg up down other m named number a e = record {
  work = subst (IsWork Answers rows column free new.kept.items) (sym e)
      (work_pair Answers rows column free f g n old.kept.items new.kept.items old.made.items ready work (next_pair rows column old.made.items f g cf cg up down other) m named number a);
  flats = λ k flats. flats_stay Answers rows column free k f g n old.kept.items new.kept.items (length old.made.items) cf m number a flats;
  made = e;
  few = a.few;
}

pub wide : (Answers : Affine → Affine → Bool → Type 0) (rows : List Kept) (column free : ℕ) (f g : Kept) (kept : List Kept) (made : List Pair)
    → IsWork Answers rows column free kept made → Contains rows f → Contains rows g → pos 0 <ℤ entry_of f.row column → entry_of g.row column <ℤ pos 0
    → All (λ q. q ≢ pair_of column f g) made → IsWide column f g → IsTooWide rows column free made (pair_of column f g)
wide Answers rows column free f g kept made work cf cg up down other w = work_wide Answers rows column free f g kept made work (next_pair rows column made f g cf cg up down other) w

-- the rows have so many columns
pub row_widths : (rows : List Kept) (column free : ℕ) (ready : AreReady rows column free) → All (λ k. length k.row.coefs ≡ ready.columns) rows
row_widths rows column free ready = All-weaker (Contains rows) (λ k. length k.row.coefs ≡ ready.columns) (λ k c. own_width rows column free k ready c) rows (All-contains_itself rows)

-- the two opposite rows by their places
negated_down : (z : ℤ) → pos 0 <ℤ z → neg_ℤ z <ℤ pos 0
negated_down z h = omega (arith, ints)

pub first_positive : (rows : List Kept) (column p n : ℕ) (first : Kept) → (two : AreOpposite rows column p n) → IsAt rows p first → pos 0 <ℤ entry_of first.row column
first_positive rows column p n first two at = subst (λ (q : Kept). pos 0 <ℤ entry_of q.row column) (same_at rows p p two.first first two.first_at at refl) two.positive

pub second_negative : (rows : List Kept) (column free p n : ℕ) (second : Kept) → AreReady rows column free → (two : AreOpposite rows column p n) → IsAt rows n second → entry_of second.row column <ℤ pos 0
second_negative rows column free p n second ready two at =
    let w = own_width rows column free two.first ready (contains_at rows p two.first two.first_at) in
    let inside : column < length two.first.row.coefs = subst (λ m. column < m) (sym w) ready.column_in in
    let down : entry_of two.second.row column <ℤ pos 0 =
    subst (λ z. z <ℤ pos 0) (sym (ap (λ (f : Affine). entry_of f column) two.opposite ∙ opposite_entry two.first.row column inside)) (negated_down (entry_of two.first.row column) two.positive) in
    subst (λ (q : Kept). entry_of q.row column <ℤ pos 0) (same_at rows n n two.second second two.second_at at refl) down

-- two facts of the value in a result
pub both_value : {T E : Type 0} (r : Result T E) (P Q R : T → Type 0) → ((x : T) → P x → Q x → R x) → IfOk r P → IfOk r Q → IfOk r R
both_value (Ok x) P Q R f h k = f x h k
both_value (Err e) P Q R f h k = tt
