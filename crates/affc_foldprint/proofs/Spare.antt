-- With folds a bare program that a text reads as has room for loops.
use Rattle.std.proofs.Common.{◌≡◌, ℕ, zero, suc, ◌+◌, ◌*◌, ◌≤◌, Bool, true, false, List, [], ◌∷◌, length, map, Option, Some, None, refl, sym, ap, subst, ◌∙◌, arith}
use Rattle.std.specs.Prelude.{slice_get}
use Rattle.std.proofs.lemmas.Bool.{and_from, le-leb}
use Rattle.std.proofs.lemmas.Option.{none-some, same_Some}
use Rattle.affc_rows.specs.Forms.{Affine}
use Rattle.affc_ast.specs.declared.tree.ArrayId.{ArrayId}
use Rattle.affc_ast.specs.declared.tree.Decl.{Decl}
use Rattle.affc_ast.specs.declared.tree.Ix.{Ix}
use Rattle.affc_ast.specs.declared.tree.Program.{Program}
use Rattle.affc_ast.specs.Meaning.{arrays_of}
use Rattle.affc_ast.specs.Recursion.{by_stmt, by_each}
use Rattle.affc_ast.specs.Trace.{Assignment, assignments_step, assignments, joined}
use Rattle.affc_ast.proofs.Steps.{row_of, unrolled, flat_unrolled}
use Rattle.affc_grammar.specs.Limits.{wide_limits}
use Rattle.affc_trace.specs.Target.{numbers_in}
use Rattle.affc_domain.specs.Plain.{IsPlain, all_of, plain_step}
use Rattle.affc_domain.specs.Ranges.{number_ranges}
use Rattle.affc_domain.specs.Rounds.{Round, rounds}
use Rattle.affc_domain.proofs.Lists.{length_map}
use Rattle.affc_domain.proofs.RangeLemmas.{numbers_are}
use Rattle.affc_loops.specs.Laws.{HaveSameLoops}
use Rattle.affc_plain.proofs.Programs.{reads_plain}
use Rattle.affc_wellnamed.specs.declared.shape.Extent.{Extent}
use Rattle.affc_wellnamed.specs.declared.shape.Shape.{Shape}
use Rattle.affc_wellnamed.specs.Known.{program_known}
use Rattle.affc_wellnamed.specs.Shape.{beside, bracketed, whole, both, line, all_behind, dims_behind, stmt_step, stmt_shape, decls_behind, head_line, params_extent, lines_shape, function_shape, program_shape, assign_line}
use Rattle.affc_wellnamed.proofs.ShapeParts.{larger_is}
use Rattle.affc_loopprint.proofs.reprint.Rows.{Under, under_more, under_both, under_brackets}
use Rattle.affc_loopprint.proofs.reprint.Statements.{numbers_of, AtMost}
use Rattle.affc_loopprint.specs.Short.{KeepsTo, with_prelude, head_shape, tested_shape, IsShort}
use Rattle.affc_loopprint.proofs.Entries.{EachTwo}
use Rattle.affc_loopprint.proofs.ShapeCalls.{plain_function, prelude_is}
use Rattle.affc_loopprint.proofs.ShapeReads.{ReadParts, reads_parts}
use Rattle.affc_loopprint.proofs.SpareReads.{reads_spare}
use Rattle.affc_basis.specs.declared.fold.Fold.{Fold}
use Rattle.affc_basis.specs.FoldLists.{AreFoldsIn}
use Rattle.affc_basis.specs.Folds.{forms_of}
use Rattle.affc_foldloops.specs.Refolds.{Subscripts, refold_step, each_under}
use Rattle.affc_foldloops.proofs.RefoldLemmas.{flat_is, refolded_keeps_shape}
use Rattle.affc_rewrite.specs.Rewrite.{printed, decl_by, decls_from, extent_forms, fold_at_work, folded_temps, folded_subscripts, folded_program, KeepLimits}
use Rattle.affc_rewrite.specs.Sizes.{IsPrintable}
use Rattle.affc_rewrite.proofs.Foldings.{few_rows}
use Rattle.affc_foldprint.specs.Laws.{FoldsSpare}
use Rattle.affc_foldprint.proofs.Components.{few_first, moduli_are}
use Rattle.affc_foldprint.proofs.Scanned.{folded_loops}
use Rattle.affc_foldprint.proofs.Growth.{modulus_few}
use Rattle.affc_foldprint.proofs.GrownStatements.{Grows, Behind, grows_self, grows_less, grows_both, grows_closed, row_grows, row_lines, tested_grows}
use Rattle.affc_foldprint.proofs.KnownFolds.{folded_known}
use Rattle.affc_foldprint.proofs.PassesFolds.{folded_passes, folded_fits}

-- ---- The head: its lines are at least three tokens long, and at most 115 with folds

record HeadGrows (r s : Shape) : Type 0 where
  tokens : r.tokens ≤ 40 * s.tokens
  run : r.run ≤ s.run + 8320
  depth : r.depth ≤ s.depth + 3
  items : r.items ≤ s.items

head_both : (a b x y : Shape) → HeadGrows a b → HeadGrows x y → HeadGrows (both a x) (both b y)
head_both a b x y h k =
    let p = h.tokens in let q = h.run in let r = h.depth in let i = h.items in
    let p' = k.tokens in let q' = k.run in let r' = k.depth in let i' = k.items in
    let l = larger_is a.run x.run in let m = larger_is b.run y.run in let n = larger_is a.depth x.depth in let o = larger_is b.depth y.depth in
    record { tokens = omega (arith, p, p'); run = omega (arith, q, q', l, m); depth = omega (arith, r, r', n, o); items = omega (arith, i, i') }

head_self : (s : Shape) → HeadGrows s s
head_self s = record { tokens = omega arith; run = omega arith; depth = omega arith; items = omega arith }

abbrev decl_line : List Ix → Shape
decl_line es = line 0 (dims_behind true (record { tokens = 2; depth = 0 }) es)

dims_low : (e : Extent) (es : List Ix) → 2 ≤ e.tokens → 2 ≤ (dims_behind true e es).tokens
dims_low e [] h = h
dims_low e (x ∷ es) h = dims_low (beside e (bracketed (whole true x))) es (omega (arith, h))

-- at most 28 tokens a dimension
dims_few : (first t : ℕ) (e : Extent) (bs : List Affine) → first ≤ 4 → ((j : ℕ) (b : Affine) → slice_get bs j ≡ Some b → IsPrintable first b) → Under 0 t 2 e
    → Under 0 (t + 28 * length bs) 2 (dims_behind true e (map (printed first) bs))
dims_few first t e [] few h u = under_more 0 t 2 0 (t + 28 * 0) 2 e (omega arith) (omega arith) u
dims_few first t e (b ∷ bs) few h u =
    let one = under_brackets 0 26 1 (whole true (printed first b)) (modulus_few true first first b few (h 0 b refl)) in
    let next = under_more 0 (t + 28) 2 0 (t + 28) 2 _ (omega arith) (omega arith) (under_both 0 t 2 0 28 2 e (bracketed (whole true (printed first b))) u one) in
    under_more 0 (t + 28 + 28 * length bs) 2 0 (t + 28 * length (b ∷ bs)) 2 _ (omega arith) (omega arith) (dims_few first (t + 28) _ bs few (λ j c e. h (suc j) c e) next)

module _ (source : Program) (folds : List (ArrayId × Fold)) (plain : IsPlain source) (are : AreFoldsIn source folds) (limits : KeepLimits source folds) where
  abbrev fresh : Subscripts
  fresh = folded_subscripts source folds

  abbrev first : ℕ
  first = numbers_in source.params

  abbrev other : Program
  other = folded_program source folds

  decl_grows : (array : ℕ) (d : Decl) (o : Option Fold) → fold_at_work source folds array ≡ o → HeadGrows (decl_line (decl_by o first d).extents) (decl_line d.extents)
  decl_grows array d None e = head_self (decl_line d.extents)
  decl_grows array d (Some fold) e =
      let a : length (forms_of fold.moduli) ≡ length fold.moduli = length_map (λ m. m.form) fold.moduli in
      let b = fold.one_each in
      let rows = few_rows fold in
      let low = dims_low (record { tokens = 2; depth = 0 }) d.extents (omega arith) in
      let u = dims_few first 2 (record { tokens = 2; depth = 0 }) (forms_of fold.moduli) (few_first source folds plain are limits) (moduli_are source folds plain are limits array fold e) (record { few = omega arith; shallow = omega arith }) in
      let f = u.few in let g = u.shallow in
      record { tokens = omega (arith, a, b, rows, low, f); run = omega (arith, a, b, rows, f); depth = omega (arith, g); items = omega arith }

  decls_grow : (array : ℕ) (ds : List Decl) (a b : Shape) → HeadGrows a b → HeadGrows (decls_behind true a (decls_from first (extent_forms source) folds array ds)) (decls_behind true b ds)
  decls_grow array [] a b h = h
  decls_grow array (d ∷ ds) a b h =
      decls_grow (suc array) ds (both a (decl_line (decl_by (fold_at_work source folds array) first d).extents)) (both b (decl_line d.extents)) (head_both a b _ _ h (decl_grows array d (fold_at_work source folds array) refl))

  head_grows : HeadGrows (head_shape other) (head_shape source)
  head_grows = decls_grow (length (arrays_of source.params)) source.temps (head_line true source.params) (head_line true source.params) (head_self (head_line true source.params))

  -- ---- The function

  abbrev same : HaveSameLoops source other
  same = folded_loops source folds

  starts : first ≡ length (number_ranges source.params) + 0
  starts = let q = numbers_are source.params in omega (arith, q)

  starts_plain : all_of (by_each (plain_step (length (number_ranges source.params))) (row_of source.body)) 0 0 ≡ true
  starts_plain = subst (λ fs. all_of fs 0 0 ≡ true) (unrolled (plain_step (length (number_ranges source.params))) source.body) plain.body

  body_grows : Behind (8320 * length (assignments source)) (map (stmt_shape true) other.body) (map (stmt_shape true) source.body)
  body_grows =
      let count = 8320 * length (joined (by_each assignments_step (row_of source.body))) in
      let new = map (stmt_shape true) (each_under (by_each (refold_step fresh) (row_of source.body)) first) in
      let by_row : Behind count new (by_each (stmt_step true) (row_of source.body)) =
      row_grows true source folds plain are limits (row_of source.body) first 0 0 starts (omega arith) starts_plain in
      let counted : Behind (8320 * length (assignments source)) new (by_each (stmt_step true) (row_of source.body)) =
      subst (λ as'. Behind (8320 * length as') new (by_each (stmt_step true) (row_of source.body))) (sym (flat_unrolled assignments_step source.body)) by_row in
      let made : Behind (8320 * length (assignments source)) (map (stmt_shape true) other.body) (by_each (stmt_step true) (row_of source.body)) =
      subst (λ rs. Behind (8320 * length (assignments source)) rs (by_each (stmt_step true) (row_of source.body))) (sym (ap (λ fs. map (stmt_shape true) (each_under fs first)) (unrolled (refold_step fresh) source.body))) counted in
      subst (λ ss. Behind (8320 * length (assignments source)) (map (stmt_shape true) other.body) ss) (sym (unrolled (stmt_step true) source.body)) made

  -- with the prelude
  function_grows : (head_shape source).tokens ≤ 131072 → Grows 5780000 (function_shape (with_prelude other)) (function_shape (with_prelude source))
  function_grows few =
      let h = head_grows in
      let t = h.tokens in
      let count = plain.few_assignments in
      let head : Grows 5242880 (head_shape other) (head_shape source) = record { tokens = omega (arith, t, few); run = h.run; depth = h.depth; items = h.items } in
      grows_less (5242880 + 8320 * length (assignments source)) 5780000 _ _ (omega (arith, count)) (grows_closed _ _ _ (body_grows (head_shape other) (head_shape source) 5242880 head))

  decls_same : (t : ℕ) (a b : Shape) (ds : List Decl) → Grows t a b → Grows t (decls_behind false a ds) (decls_behind false b ds)
  decls_same t a b [] h = h
  decls_same t a b (d ∷ ds) h =
      let x = line 0 (dims_behind false (record { tokens = 2; depth = 0 }) d.extents) in
      decls_same t (both a x) (both b x) ds (grows_less (t + 0) t _ _ (omega arith) (grows_both t 0 a b x x h (grows_self 0 x)))

  stmts_same : (t : ℕ) (a b : Shape) (ss : List Shape) → Grows t a b → Grows t (all_behind a ss) (all_behind b ss)
  stmts_same t a b [] h = h
  stmts_same t a b (x ∷ ss) h = stmts_same t (both a x) (both b x) ss (grows_less (t + 0) t _ _ (omega arith) (grows_both t 0 a b x x h (grows_self 0 x)))

  -- and without it, where nothing is called
  function_less : program_known other ≡ true → (b : Bool) → other.prelude ≡ b → Grows 0 (function_shape other) (function_shape (with_prelude other))
  function_less known true e =
      subst (λ p. Grows 0 (function_shape (record other { prelude = p })) (function_shape (with_prelude other))) (sym e) (grows_self 0 (function_shape (with_prelude other)))
  function_less known false e =
      let q = prelude_is other e known in
      let x = params_extent false other.params in
      subst (λ z. Grows 0 z (function_shape (with_prelude other))) (sym q.1)
      (subst (Grows 0 (plain_function 4 other)) (sym q.0)
      (grows_closed 0 _ _ (stmts_same 0 _ _ (map (stmt_shape false) other.body) (decls_same 0 (line 4 x) (line 5 x) other.temps (record { tokens = omega arith; run = omega arith; depth = omega arith; items = omega arith })))))

  -- ---- Statements

  abbrev LineGrows : Assignment → Assignment → Type 0
  LineGrows b a = Grows 8320 (assign_line true b.subs b.value) (assign_line true a.subs a.value)

  lines_grow : EachTwo LineGrows (assignments other) (assignments source)
  lines_grow =
      let old = joined (by_each assignments_step (row_of source.body)) in
      let new = joined (map (by_stmt assignments_step) (each_under (by_each (refold_step fresh) (row_of source.body)) first)) in
      let by_row : EachTwo LineGrows new old = row_lines true source folds plain are limits (row_of source.body) first 0 0 starts (omega arith) starts_plain in
      let made : assignments other ≡ new = flat_is (by_stmt assignments_step) other.body ∙ ap (λ fs. joined (map (by_stmt assignments_step) (each_under fs first))) (unrolled (refold_step fresh) source.body) in
      subst (EachTwo LineGrows (assignments other)) (sym (flat_unrolled assignments_step source.body)) (subst (λ bs. EachTwo LineGrows bs old) (sym made) by_row)

  found : (bs as' : List Assignment) → EachTwo LineGrows bs as' → (k : ℕ) (b : Assignment) → slice_get bs k ≡ Some b → (a : Assignment) × (slice_get as' k ≡ Some a) × LineGrows b a
  found [] as' h k b e = absurd (none-some b e)
  found (x ∷ bs) [] h k b e = absurd h
  found (x ∷ bs) (a ∷ as') h zero b e = (a, refl, subst (λ y. LineGrows y a) (same_Some x b e) h.0)
  found (x ∷ bs) (a ∷ as') h (suc k) b e = found bs as' h.1 k b e

  statements_short : ReadParts source → (k : ℕ) (rs : List Round) (b : Assignment) → slice_get (rounds other) k ≡ Some rs → slice_get (assignments other) k ≡ Some b
      → (from_first more from : ℕ) → KeepsTo (record { tokens = 160000; run = 32000; depth = 239; items = 38 }) (tested_shape from_first more from rs b)
  statements_short parts k rs b e f from_first more from =
      let a = found (assignments other) (assignments source) lines_grow k b f in
      let here = ap (λ rss. slice_get rss k) (sym same.same_rounds) ∙ e in
      let s = parts.statements k rs a.0 here a.1 from_first more from in
      let g = tested_grows from_first more from rs b a.0 a.2 in
      let t = s.tokens in let u = s.run in let v = s.depth in let w = s.items in
      let t' = g.tokens in let u' = g.run in let v' = g.depth in let w' = g.items in
      record { tokens = omega (arith, t, t'); run = omega (arith, u, u'); depth = omega (arith, v, v'); items = omega (arith, w, w') }

  -- ---- The whole

  short : ReadParts source → program_known other ≡ true → IsShort other
  short parts known =
      let l : AtMost (numbers_of (lines_shape other)) (record { tokens = 65424; run = 65379; depth = 193; items = 0 }) = parts.lines in
      let h = parts.head in let f = parts.function in
      let few = h.tokens in
      let g = function_grows few in
      let less = function_less known other.prelude refl in
      let head = head_grows in
      let lt = l.tokens in let lr = l.run in let ld = l.depth in let li = l.items in
      let ft = f.tokens in let fr = f.run in let fd = f.depth in let fi = f.items in
      let gt = g.tokens in let gr = g.run in let gd = g.depth in let gi = g.items in
      let kt = less.tokens in let kr = less.run in let kd = less.depth in let ki = less.items in
      let ht = head.tokens in let hr = head.run in let hd = head.depth in let hi = head.items in
      let pr = h.run in let pd = h.depth in let pi = h.items in
      let x = larger_is (lines_shape other).run (function_shape other).run in
      let y = larger_is (lines_shape other).depth (function_shape other).depth in
      let shape = program_shape other in
      record {
        bounded =
            and_from _ _ (and_from _ _ (le-leb shape.tokens wide_limits.tokens (omega (arith, lt, ft, gt, kt))) (le-leb shape.run wide_limits.run (omega (arith, lr, fr, gr, kr, x))))
            (and_from _ _ (le-leb shape.depth wide_limits.depth (omega (arith, ld, fd, gd, kd, y))) (le-leb shape.items wide_limits.items (omega (arith, li, fi, gi, ki))));
        lines = record { tokens = omega (arith, lt); run = omega (arith, lr); depth = omega (arith, ld); items = omega (arith, li) };
        head = record { tokens = omega (arith, ht, few); run = omega (arith, hr, pr); depth = omega (arith, hd, pd); items = omega (arith, hi, pi) };
        statements = statements_short parts;
      }

pub folds_spare : FoldsSpare
folds_spare text source folds r is_bare are limits =
    let off = is_bare.prelude in
    let own = reads_spare text source r is_bare in
    let plain = reads_plain text source r is_bare in
    let known = folded_known source folds plain are limits off own.known in
    let shape = refolded_keeps_shape (folded_subscripts source folds) (folded_temps source folds) source in
    record {
      known = known;
      plain = folded_passes source folds plain are limits own.plain;
      fits = folded_fits source folds own.fits;
      bare = ap (λ b. b) shape.same_locals ∙ own.bare;
      iterators = λ k rs e. own.iterators k rs (ap (λ rss. slice_get rss k) (sym (folded_loops source folds).same_rounds) ∙ e);
      short = short source folds plain are limits (reads_parts text source r is_bare) known;
    }
