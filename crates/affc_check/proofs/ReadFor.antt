-- A certificate that was read for the layout of a nest keeps the limits that are asked of it.
use Rattle.std.proofs.Common.{◌≡◌, ℕ, zero, suc, ◌+◌, Bool, true, false, if◌then◌else◌, List, [], ◌∷◌, length, map, Some, refl, sym, ap, subst, inl, inr, ◌∙◌}
use Rattle.std.specs.Prelude.{◌==◌, slice_get}
use Rattle.std.specs.List.{All, AllZip}
use Rattle.std.proofs.lemmas.Bool.{eqb-true}
use Rattle.std.proofs.lemmas.Option.{same_Some, none-some}
use Rattle.std.proofs.lemmas.Slice.Zip.{AllZip-long}
use Rattle.affc_trace.specs.Law.{IsIn}
use Rattle.affc_trace.proofs.Members.{to_map}
use Rattle.affc_basis.specs.Moduli.{IsModulus}
use Rattle.affc_domain.proofs.Lists.{length_map}
use Rattle.affc_nest.specs.declared.nest.Entry.{Entry}
use Rattle.affc_nest.specs.declared.nest.Nest.{Nest}
use Rattle.affc_quast.specs.Limits.{Shaped}
use Rattle.affc_quast.specs.Seen.{trees_of}
use Rattle.affc_quast.specs.Sources.{loads_before}
use Rattle.affc_quast.specs.Trees.{Tree, Test, Div, Source, Input}
use Rattle.affc_life.specs.Asked.{NamesParts, KeepsLimits}
use Rattle.affc_certvalue.specs.fold.Entries.{entry_of}
use Rattle.affc_certvalue.specs.fold.Limits.{IsModulusWithin, IsMarkWithin, IsFoldWithin}
use Rattle.affc_certvalue.specs.declared.fold.fold.CertFold.{CertFold}
use Rattle.affc_certvalue.specs.declared.fold.fold.CertModulus.{CertModulus}
use Rattle.affc_certvalue.specs.declared.fold.layout.Temporary.{Temporary}
use Rattle.affc_cert.specs.tree.Trees.{loops_at}
use Rattle.affc_cert.specs.tree.Within.{NamesStores, IsTreeWithin}
use Rattle.affc_cert.specs.declared.tree.layout.Load.{Load}
use Rattle.affc_cert.specs.declared.tree.layout.Store.{Store}
use Rattle.affc_check.specs.list.Certs as of_check
use Rattle.affc_check.specs.list.Certs.{IsFoldFor}
use Rattle.affc_check.specs.Layouts.{IsStoreIn, IsLoadIn, IsTemporaryIn, ReadIsFor}

-- ---- Lists beside one another

zip_at : {A B : Type 0} (R : A → B → Type 0) (xs : List A) (ys : List B) (i : ℕ) (x : A) → AllZip R xs ys → slice_get xs i ≡ Some x → (y : B) × (slice_get ys i ≡ Some y) × R x y
zip_at R [] ys i x h e = absurd (none-some x e)
zip_at R (z ∷ xs) [] i x h e = absurd h
zip_at R (z ∷ xs) (y ∷ ys) zero x h e = (y, refl, subst (λ a. R a y) (same_Some z x e) h.0)
zip_at R (z ∷ xs) (y ∷ ys) (suc i) x h e = zip_at R xs ys i x h.1 e

pub zip_in : {A B : Type 0} (R : A → B → Type 0) (xs : List A) (ys : List B) (y : B) → AllZip R xs ys → IsIn y ys → (x : A) × IsIn x xs × R x y
zip_in R [] [] y h i = absurd i
zip_in R [] (z ∷ ys) y h i = absurd h
zip_in R (x ∷ xs) [] y h i = absurd i
zip_in R (x ∷ xs) (z ∷ ys) y h (inl e) = (x, inl refl, subst (R x) (sym e) h.0)
zip_in R (x ∷ xs) (z ∷ ys) y h (inr i) = let r = zip_in R xs ys y h.1 i in (r.0, inr r.1, r.2)

all_by : {A : Type 0} (P Q : A → Type 0) → ((x : A) → P x → Q x) → (xs : List A) → All P xs → All Q xs
all_by P Q f xs h = λ k d l. f _ (h k d l)

-- ---- Trees

-- the store with this number
store_of : (n : ℕ) (ss : List Store) (k : ℕ) → loops_at n ss ≡ Some k → (s : Store) × IsIn s ss × (s.statement ≡ n) × (s.loops ≡ k)
store_of n [] k e = absurd (none-some k e)
store_of n (s ∷ ss) k e = by (n == s.statement) refl (store_of n ss k)
  where
    by : (t : Bool) → (n == s.statement) ≡ t → (loops_at n ss ≡ Some k → (r : Store) × IsIn r ss × (r.statement ≡ n) × (r.loops ≡ k)) → (r : Store) × IsIn r (s ∷ ss) × (r.statement ≡ n) × (r.loops ≡ k)
    by true f rest =
        let g : Some s.loops ≡ Some k = ap (λ b. if b then Some s.loops else loops_at n ss) (sym f) ∙ e in
        (s, inl refl, sym (eqb-true n s.statement f), same_Some s.loops k g)
    by false f rest =
        let g : loops_at n ss ≡ Some k = ap (λ b. if b then Some s.loops else loops_at n ss) (sym f) ∙ e in
        let r = rest g in
        (r.0, inr r.1, r.2, r.3)

names_parts : (nest : Nest) (stores : List Store) → ((s : Store) → IsIn s stores → IsStoreIn nest s) → (tree : Tree) → NamesStores stores tree → NamesParts nest tree
names_parts nest stores h (Test f on off) n = (names_parts nest stores h on n.0, names_parts nest stores h off n.1)
names_parts nest stores h (Div f by rest) n = names_parts nest stores h rest n
names_parts nest stores h (Source s forms) n =
    let r = store_of s stores (length forms) n.1 in
    let i = h r.0 r.1 in
    record { entry = i.entry; there = subst (λ m. slice_get nest.entries m ≡ Some i.entry) r.2 i.there; each = sym r.3 ∙ i.loops }
names_parts nest stores h Input n = tt

keeps_limits : (nest : Nest) (e : Entry) (l : Load) (tree : Tree) → IsLoadIn nest e l → IsTreeWithin l tree → KeepsLimits nest (length nest.params + length e.loops) tree
keeps_limits nest e l tree i w = record {
  shaped = subst (λ n. Shaped n tree) i.columns w.shaped;
  named = names_parts nest l.stores i.stores tree w.named;
  fits = w.fits;
  short = w.short;
}

-- ---- Folds

module _ (nest : Nest) (parameters : ℕ) (same : parameters ≡ nest.context.columns) (t : Temporary) (of : IsTemporaryIn nest t) (f : CertFold) (w : IsFoldWithin parameters t (entry_of f)) where
  rows_many : length f.basis.rows ≡ t.dimensions
  rows_many = sym (length_map (λ (g : _). g.coefs) f.basis.rows) ∙ w.rows.each

  fold_for : IsFoldFor nest f
  fold_for = record {
    info = of.info;
    declared = subst (λ n. slice_get nest.arrays n ≡ Some of.info) (sym w.array) of.declared;
    dimensions = rows_many ∙ of.dimensions;
    moduli = all_by (IsModulusWithin parameters) (λ m. IsModulus nest.context.columns m.form)
        (λ (m : CertModulus) (h : IsModulusWithin parameters m). record { width = h.columns ∙ same; coefs_fit = h.small.coefs; constant_fits = h.small.constant }) f.moduli w.moduli;
  }

  fold_within : of_check.IsFoldWithin nest f
  fold_within = record {
    each = w.each ∙ sym rows_many;
    marks = all_by (IsModulusWithin parameters) (λ m. IsMarkWithin nest.context.columns m.least)
        (λ (m : CertModulus) (h : IsModulusWithin parameters m). subst (λ n. IsMarkWithin n m.least) same h.mark) f.moduli w.moduli;
  }

-- ---- All of it

pub read_is_for : ReadIsFor
read_is_for nest layout c of w = record {
  certificate = record {
    shapes = λ s k e at less.
        let l = of.loads s k e at less in
        let t = zip_at IsTreeWithin layout.loads (trees_of c.flow) (loads_before nest.entries s + k) l.0 w.trees l.1 in
        (t.0, t.1, (keeps_limits nest e l.0 t.0 l.2 t.2).shaped);
    folds = λ f i.
        let t = zip_in (IsFoldWithin layout.parameters) layout.temporaries (map entry_of c.folds) (entry_of f) w.folds (to_map entry_of c.folds f i) in
        fold_for nest layout.parameters of.parameters t.0 (of.temporaries t.0 t.1) f t.2;
  };
  trees = λ s k e tree at less there.
      let l = of.loads s k e at less in
      let t = zip_at IsTreeWithin layout.loads (trees_of c.flow) (loads_before nest.entries s + k) l.0 w.trees l.1 in
      subst (KeepsLimits nest (length nest.params + length e.loops)) (same_Some t.0 tree (sym t.1 ∙ there)) (keeps_limits nest e l.0 t.0 l.2 t.2);
  no_more = AllZip-long IsTreeWithin layout.loads (trees_of c.flow) w.trees ∙ of.no_more;
  folds = λ f i.
      let t = zip_in (IsFoldWithin layout.parameters) layout.temporaries (map entry_of c.folds) (entry_of f) w.folds (to_map entry_of c.folds f i) in
      fold_within nest layout.parameters of.parameters t.0 (of.temporaries t.0 t.1) f t.2;
}
