-- With folds a program is known: its text has the prelude where a fold is called.
use Rattle.std.proofs.Common.{◌≡◌, ℕ, suc, ◌+◌, ◌≤◌, Bool, true, false, true≢false, not, ◌&&◌, ◌||◌, nat_lt, List, [], ◌∷◌, ◌++◌, length, map, Option, Some, None, refl, sym, ap, subst, ◌∙◌, arith}
use Rattle.std.specs.Prelude.{nat_le, slice_get}
use Rattle.std.specs.List.{list_any}
use Rattle.std.proofs.lemmas.Bool.{and_parts, and_from, false≢true, ltb-true}
use Rattle.affc_lex.specs.Bytes.{same}
use Rattle.affc_lex.specs.Pieces.{is_word}
use Rattle.affc_rows.specs.Forms.{Affine}
use Rattle.affc_ast.specs.Names.{is_reserved}
use Rattle.affc_ast.specs.declared.tree.ArrayId.{ArrayId}
use Rattle.affc_ast.specs.declared.tree.Compare.{Compare}
use Rattle.affc_ast.specs.declared.tree.Cond.{Cond}
use Rattle.affc_ast.specs.declared.tree.Decl.{Decl}
use Rattle.affc_ast.specs.declared.tree.Ix.{Ix}
use Rattle.affc_ast.specs.declared.tree.Ix.TheVariants.{Mod}
use Rattle.affc_ast.specs.declared.tree.Param.{Param}
use Rattle.affc_ast.specs.declared.tree.Param.TheVariants.{Number, Array}
use Rattle.affc_ast.specs.declared.tree.Program.{Program}
use Rattle.affc_ast.specs.declared.tree.Stmt.{Stmt}
use Rattle.affc_ast.specs.declared.tree.Stmt.TheVariants as s
use Rattle.affc_ast.specs.declared.tree.Stmt.TheBlock.{Row_of-Stmt, more_of-Stmt, end_of-Stmt}
use Rattle.affc_ast.specs.declared.tree.Val.{Val}
use Rattle.affc_ast.specs.declared.tree.Val.TheVariants as v
use Rattle.affc_ast.specs.declared.tree.Val.TheBlock.{more_of-Val, end_of-Val}
use Rattle.affc_ast.specs.Meaning.{arrays_of}
use Rattle.affc_ast.specs.Pieces.{comparisons_of}
use Rattle.affc_ast.specs.Recursion.{by_val, by_stmt, by_each}
use Rattle.affc_ast.proofs.Steps.{mod_here, not_here, bin_here, shift_here, for_here, if_here, block_here, row_of, unrolled}
use Rattle.affc_trace.specs.Target.{numbers_in}
use Rattle.affc_domain.specs.Plain as domain
use Rattle.affc_domain.specs.Plain.{IsPlain, all_plain, plain_value, plain_cond, is_upward, all_of, plain_step}
use Rattle.affc_domain.specs.Accesses.{accesses_of}
use Rattle.affc_domain.specs.Ranges.{number_ranges}
use Rattle.affc_domain.proofs.Lists.{both_true}
use Rattle.affc_grammar.specs.Grammar.{Name}
use Rattle.affc_grammar.specs.Names.{is_time_name}
use Rattle.affc_cprint.specs.Forms.{is_none}
use Rattle.affc_cprint.proofs.ReadBackValues.{Each}
use Rattle.affc_wellnamed.specs.Known as known
use Rattle.affc_wellnamed.specs.Known.{Known, and_iterator, and_locals, is_new, is_bound, ix_step, ix_known, ixs_known, compares_known, cond_known, takes, value_step, value_known, all_at, for_known, assign_known, block_known, stmt_known, is_temp, is_number, number_count, param_name, param_arrays, known_behind, extents_known, param_known, params_known, temp_known, temps_known, is_function, context_known, program_known}
use Rattle.affc_domain.proofs.RangeLemmas.{numbers_are}
use Rattle.affc_loopprint.proofs.KnownHeads as heads
use Rattle.affc_loopprint.proofs.Conditions.{cond_wider}
use Rattle.affc_loopprint.proofs.Moved.{wider, all_wider, tests_wider}
use Rattle.affc_loopprint.proofs.Sums.{sums_known}
use Rattle.affc_basis.specs.declared.fold.Fold.{Fold}
use Rattle.affc_basis.specs.FoldLists.{AreFoldsIn}
use Rattle.affc_basis.specs.Folds.{forms_of}
use Rattle.affc_foldloops.specs.Refolds.{Subscripts, refold_value, refold_step, each_under}
use Rattle.affc_rewrite.specs.Rewrite.{printed, decl_by, decls_from, extent_forms, fold_at_work, folded_temps, folded_subscripts, call_step, has_call, some_call, value_call_step, cond_calls, stmt_call_step, folded_program, KeepLimits}
use Rattle.affc_rewrite.specs.Sizes.{IsPrintable}
use Rattle.affc_foldprint.proofs.Components.{RemainderOf, at_have, moduli_are}
use Rattle.affc_foldprint.proofs.KnownArrays.{same_arrays, fold_takes}
use Rattle.affc_foldprint.proofs.PassesFolds.{printed_has}

or_left : (a b : Bool) → a ≡ true → a || b ≡ true
or_left a b h = ap (λ z. z || b) h

or_right : (a b : Bool) → b ≡ true → a || b ≡ true
or_right true b h = refl
or_right false b h = h

-- a name that may stand without the prelude may stand with it
refused_less : (r it p q t : Bool) → p ≡ false → not (r && not (it && p && t)) ≡ true → not (r && not (it && q && t)) ≡ true
refused_less false it p q t e h = refl
refused_less true it true q t e h = absurd (true≢false e)
refused_less true true false q t e h = absurd (false≢true h)
refused_less true false false q t e h = absurd (false≢true h)

-- what is in sight of a program with folds, where this is in sight of its source
record Alike (prelude : Bool) (old new : Known) : Type 0 where
  off : old.prelude ≡ false
  on : new.prelude ≡ prelude
  numbers : new.numbers ≡ old.numbers
  taken : (w : Name) → new.is_taken w ≡ old.is_taken w

module _ (prelude : Bool) (old new : Known) (a : Alike prelude old new) where
  calls : old.prelude ≡ true → new.prelude ≡ true
  calls h = absurd (false≢true (sym a.off ∙ h))

  no_fewer : old.numbers ≤ new.numbers
  no_fewer = let n = a.numbers in omega (arith, n)

  ix_more : (e : Ix) → ix_known old e ≡ true → ix_known new e ≡ true
  ix_more e h = wider old new calls no_fewer e h

  ixs_more : (es : List Ix) → ixs_known old es ≡ true → ixs_known new es ≡ true
  ixs_more es h = all_wider old new calls no_fewer es h

  tests_more : (cs : List Compare) → compares_known old cs ≡ true → compares_known new cs ≡ true
  tests_more cs h = tests_wider old new calls no_fewer cs h

  cond_more : (cond : Cond) → cond_known old cond ≡ true → cond_known new cond ≡ true
  cond_more cond h = cond_wider old new calls no_fewer cond h

  new_more : (it : Bool) (w : Name) → is_new old it w ≡ true → is_new new it w ≡ true
  new_more it w h =
      let p = and_parts (is_word w && not (known.is_refused old.prelude it w)) (not (old.is_taken w)) h in
      let q = and_parts (is_word w) (not (known.is_refused old.prelude it w)) p.0 in
      and_from _ _ (and_from _ _ q.0 (refused_less (is_reserved w) it old.prelude new.prelude (is_time_name w) a.off q.1)) (ap not (a.taken w) ∙ p.1)

  iterator_alike : (w : Name) → Alike prelude (and_iterator old w) (and_iterator new w)
  iterator_alike w = record { off = a.off; on = a.on; numbers = ap (λ n. n + 1) a.numbers; taken = λ x. ap (λ b. same w x || b) (a.taken x) }

  bare_alike : Alike prelude (and_locals old []) (and_locals new [])
  bare_alike = record { off = a.off; on = a.on; numbers = ap (λ n. n + 0) a.numbers; taken = a.taken }

module _ (source : Program) (folds : List (ArrayId × Fold)) (plain : IsPlain source) (are : AreFoldsIn source folds) (limits : KeepLimits source folds) where
  abbrev fresh : Subscripts
  fresh = folded_subscripts source folds

  abbrev numbers : ℕ
  numbers = length (number_ranges source.params)

  abbrev first : ℕ
  first = numbers_in source.params

  printed_known : (new : Known) (n : ℕ) (f : Affine) → IsPrintable n f → n ≤ new.numbers → first ≤ n → ix_known new (printed first f) ≡ true
  printed_known new n f is l m = printed_has (λ e. ix_known new e ≡ true) new.numbers n first f (sums_known new) is l m

  module _ (prelude : Bool) where
    -- with what is in sight of the arrays
    record Sights (n : ℕ) (old new : Known) : Type 0 where
      alike : Alike prelude old new
      count : old.numbers ≡ n
      arrays : old.arrays ≡ arrays_of source.params ++ source.temps
      new_arrays : new.arrays ≡ arrays_of source.params ++ folded_temps source folds

    new_count : (n : ℕ) (old new : Known) → Sights n old new → n ≤ new.numbers
    new_count n old new i = let a = i.alike.numbers in let c = i.count in omega (arith, a, c)

    takes_more : (n : ℕ) (old new : Known) → Sights n old new → (is_store : Bool) (array : ArrayId) (subs : List Ix) → takes is_store (length subs) (slice_get old.arrays array.0) ≡ true
        → takes is_store (length (fresh n array subs)) (slice_get new.arrays array.0) ≡ true
    takes_more n old new i is_store array subs h =
        ap (λ (ds : List Decl). takes is_store (length (fresh n array subs)) (slice_get ds array.0)) i.new_arrays
        ∙ fold_takes source folds are is_store n array subs (ap (λ (ds : List Decl). takes is_store (length subs) (slice_get ds array.0)) (sym i.arrays) ∙ h)

    -- known, where the prelude stands if it calls
    abbrev KnownIf : Known → Ix → Type 0
    KnownIf new e = (has_call e ≡ true → prelude ≡ true) → ix_known new e ≡ true

    each_more : (old new : Known) (es : List Ix) → Alike prelude old new → ixs_known old es ≡ true → Each (KnownIf new) es
    each_more old new [] a h = tt
    each_more old new (e ∷ es) a h = let p = and_parts (ix_known old e) (ixs_known old es) h in ((λ c. ix_more prelude old new a e p.0), each_more old new es a p.1)

    all_known : (new : Known) (es : List Ix) → (some_call es ≡ true → prelude ≡ true) → Each (KnownIf new) es → ixs_known new es ≡ true
    all_known new [] c h = refl
    all_known new (e ∷ es) c h = and_from _ _ (h.0 (λ q. c (or_left (has_call e) (some_call es) q))) (all_known new es (λ q. c (or_right (has_call e) (some_call es) q)) h.1)

    remainder_known : (n : ℕ) (old new : Known) → Sights n old new → first ≤ n → (f b : Affine) → RemainderOf first n f b → KnownIf new (Mod (printed first f) (printed first b))
    remainder_known n old new i l f b r c =
        let m = new_count n old new i in
        let on : new.prelude ≡ true = i.alike.on ∙ c (mod_here call_step (printed first f) (printed first b)) in
        mod_here (ix_step new) (printed first f) (printed first b)
        ∙ and_from new.prelude _ on (and_from _ _ (printed_known new n f r.row m l) (printed_known new first b r.modulus (omega (arith, l, m)) (omega arith)))

    access_known : (n : ℕ) (old new : Known) (array : ArrayId) (subs : List Ix) → Sights n old new → n ≤ 16 → first ≤ n → all_plain n subs ≡ true → ixs_known old subs ≡ true
        → (some_call (fresh n array subs) ≡ true → prelude ≡ true) → ixs_known new (fresh n array subs) ≡ true
    access_known n old new array subs i short l h k c =
        all_known new (fresh n array subs) c
        (at_have source folds plain are limits (KnownIf new) n array subs short h (each_more old new subs i.alike k) (λ q. (sums_known new).lit 0 (omega arith)) (remainder_known n old new i l))

    fold_value_known : (n : ℕ) (old new : Known) (e : Val) → Sights n old new → n ≤ 16 → first ≤ n → plain_value e n ≡ true → value_known old e ≡ true
        → (by_val value_call_step (refold_value fresh n e) ≡ true → prelude ≡ true) → value_known new (refold_value fresh n e) ≡ true
    fold_value_known n old new (v.Load array subs) i short l h k c =
        let p = and_parts (takes false (length subs) (slice_get old.arrays array.0)) (ixs_known old subs) k in
        and_from _ _ (takes_more n old new i false array subs p.0) (access_known n old new array subs i short l h p.1 c)
    fold_value_known n old new (v.Const x) i short l h k c = k
    fold_value_known n old new (v.Cast e) i short l h k c = ix_more prelude old new i.alike e k
    fold_value_known n old new (v.Not' s (more_of-Val a end_of-Val)) i short l h k c =
        not_here (value_step new) (refold_value fresh n a) ∙ fold_value_known n old new a i short l h k (λ q. c (not_here value_call_step (refold_value fresh n a) ∙ q))
    fold_value_known n old new (v.Shift' left s (more_of-Val a end_of-Val) by) i short l h k c =
        let p = and_parts (nat_le by 63) (value_known old a) k in
        shift_here (value_step new) left (refold_value fresh n a) by ∙ and_from _ _ p.0 (fold_value_known n old new a i short l h p.1 (λ q. c (shift_here value_call_step left (refold_value fresh n a) by ∙ q)))
    fold_value_known n old new (v.Bin' op s (more_of-Val a end_of-Val) t (more_of-Val b end_of-Val)) i short l h k c =
        let p = both_true (plain_value a n) (plain_value b n) h in
        let q = and_parts (value_known old a) (value_known old b) k in
        let x = refold_value fresh n a in
        let y = refold_value fresh n b in
        bin_here (value_step new) op x y
        ∙ and_from _ _ (fold_value_known n old new a i short l p.0 q.0 (λ z. c (bin_here value_call_step op x y ∙ or_left (by_val value_call_step x) (by_val value_call_step y) z)))
        (fold_value_known n old new b i short l p.1 q.1 (λ z. c (bin_here value_call_step op x y ∙ or_right (by_val value_call_step x) (by_val value_call_step y) z)))

    abbrev some : List Bool → Bool
    some bs = list_any (λ b. b) bs

    abbrev calls_in : List Stmt → List Bool
    calls_in xs = map (by_stmt stmt_call_step) xs

    mutual
      fold_known : (x : Stmt) (n k c : ℕ) (old new : Known) → Sights n old new → n ≡ numbers + k → k ≤ 6 → by_stmt (plain_step numbers) x k c ≡ true → stmt_known x old ≡ true
          → (by_stmt stmt_call_step (by_stmt (refold_step fresh) x n) ≡ true → prelude ≡ true) → stmt_known (by_stmt (refold_step fresh) x n) new ≡ true
      fold_known (s.For' iter low rel high shape body) n k c old new i e l g h on =
          let d = both_true (nat_lt k 6) _ g in
          let u = both_true (is_upward rel) _ d.1 in
          let a = both_true (domain.is_plain (numbers + k) low) _ u.1 in
          let b = both_true (domain.is_plain (numbers + k) high) _ a.1 in
          let less = ltb-true k 6 d.0 in
          let ys = each_under (by_each (refold_step fresh) body) (suc n) in
          let p = and_parts (for_known old iter low rel high) (all_at (and_iterator old iter) (by_each known.stmt_step body)) h in
          let q = and_parts (is_new old true iter) _ p.0 in
          let r = and_parts (is_bound rel) _ q.1 in
          let t = and_parts (ix_known old low) (ix_known old high) r.1 in
          let count = i.count in
          ap (λ (f : Known → Bool). f new) (for_here known.stmt_step iter low rel high ys)
          ∙ and_from _ _ (and_from _ _ (new_more prelude old new i.alike true iter q.0) (and_from _ _ r.0 (and_from _ _ (ix_more prelude old new i.alike low t.0) (ix_more prelude old new i.alike high t.1))))
          (row_known body (suc n) (suc k) c (and_iterator old iter) (and_iterator new iter)
          (record { alike = iterator_alike prelude old new i.alike iter; count = (omega (arith, count)); arrays = i.arrays; new_arrays = i.new_arrays }) (omega (arith, e)) (omega (arith, less)) b.1 p.1
          (λ z. on (for_here stmt_call_step iter low rel high ys ∙ or_right (has_call low) _ (or_right (has_call high) (some (calls_in ys)) z))))
      fold_known (s.If' cond shape body shape' other) n k c old new i e l g h on =
          let d = c + comparisons_of cond in
          let a = both_true (plain_cond (numbers + k) cond) _ g in
          let b = both_true (all_of (by_each (plain_step numbers) body) k d) (all_of (by_each (plain_step numbers) other) k d) a.1 in
          let ys = each_under (by_each (refold_step fresh) body) n in
          let zs = each_under (by_each (refold_step fresh) other) n in
          let p = and_parts (cond_known old cond) _ h in
          let q = and_parts (all_at old (by_each known.stmt_step body)) (all_at old (by_each known.stmt_step other)) p.1 in
          let called = if_here stmt_call_step cond ys zs in
          ap (λ (f : Known → Bool). f new) (if_here known.stmt_step cond ys zs)
          ∙ and_from _ _ (cond_more prelude old new i.alike cond p.0)
          (and_from _ _
          (row_known body n k d old new i e l b.0 q.0 (λ z. on (called ∙ or_right (cond_calls cond) (some (calls_in ys) || some (calls_in zs)) (or_left (some (calls_in ys)) (some (calls_in zs)) z))))
          (row_known other n k d old new i e l b.1 q.1 (λ z. on (called ∙ or_right (cond_calls cond) (some (calls_in ys) || some (calls_in zs)) (or_right (some (calls_in ys)) (some (calls_in zs)) z)))))
      fold_known (s.Assign op array subs value) n k c old new i e l g h on =
          let d = both_true (nat_le c 32) _ g in
          let a = both_true (nat_le (length (accesses_of (record { op = op; array = array; subs = subs; value = value }))) 16) _ d.1 in
          let b = both_true (all_plain (numbers + k) subs) (plain_value value (numbers + k)) a.1 in
          let p = and_parts (takes true (length subs) (slice_get old.arrays array.0)) _ h in
          let q = and_parts (ixs_known old subs) (value_known old value) p.1 in
          let few = plain.few_numbers in let same = numbers_are source.params in
          let short : n ≤ 16 = omega (arith, e, l, few) in
          let behind : first ≤ n = omega (arith, e, same) in
          and_from _ _ (takes_more n old new i true array subs p.0)
          (and_from _ _
          (access_known n old new array subs i short behind (ap (λ m. all_plain m subs) e ∙ b.0) q.0 (λ z. on (or_left (some_call (fresh n array subs)) (by_val value_call_step (refold_value fresh n value)) z)))
          (fold_value_known n old new value i short behind (ap (plain_value value) e ∙ b.1) q.1 (λ z. on (or_right (some_call (fresh n array subs)) (by_val value_call_step (refold_value fresh n value)) z))))
      fold_known (s.Block' [] shape body) n k c old new i e l g h on =
          let ys = each_under (by_each (refold_step fresh) body) (n + 0) in
          let p = and_parts (block_known old []) (all_at (and_locals old []) (by_each known.stmt_step body)) h in
          let count = i.count in
          ap (λ (f : Known → Bool). f new) (block_here known.stmt_step [] ys)
          ∙ and_from _ _ (and_from _ true (or_right new.prelude true refl) refl)
          (row_known body (n + 0) k c (and_locals old []) (and_locals new [])
          (record { alike = bare_alike prelude old new i.alike; count = (omega (arith, count)); arrays = i.arrays; new_arrays = i.new_arrays }) (omega (arith, e)) l g p.1 (λ z. on (block_here stmt_call_step [] ys ∙ z)))
      fold_known (s.Block' (local ∷ locals) shape body) n k c old new i e l g h on = absurd (true≢false (sym g))

      row_known : {m : _} (body : Row_of-Stmt m) (n k c : ℕ) (old new : Known) → Sights n old new → n ≡ numbers + k → k ≤ 6 → all_of (by_each (plain_step numbers) body) k c ≡ true → all_at old (by_each known.stmt_step body) ≡ true
          → (some (calls_in (each_under (by_each (refold_step fresh) body) n)) ≡ true → prelude ≡ true) → all_at new (map stmt_known (each_under (by_each (refold_step fresh) body) n)) ≡ true
      row_known end_of-Stmt n k c old new i e l g h on = refl
      row_known (more_of-Stmt x rest) n k c old new i e l g h on =
          let p = both_true (by_stmt (plain_step numbers) x k c) (all_of (by_each (plain_step numbers) rest) k c) g in
          let q = and_parts (stmt_known x old) (all_at old (by_each known.stmt_step rest)) h in
          let y = by_stmt (refold_step fresh) x n in
          let ys = each_under (by_each (refold_step fresh) rest) n in
          and_from _ _ (fold_known x n k c old new i e l p.0 q.0 (λ z. on (or_left (by_stmt stmt_call_step y) (some (calls_in ys)) z)))
          (row_known rest n k c old new i e l p.1 q.1 (λ z. on (or_right (by_stmt stmt_call_step y) (some (calls_in ys)) z)))

    -- ---- Declarations

    abbrev names : List Decl → List Name
    names ds = map (λ (d : Decl). d.name) ds

    any_name : (w : Name) (ds : List Decl) → list_any (λ (d : Decl). same d.name w) ds ≡ list_any (λ x. same x w) (names ds)
    any_name w [] = refl
    any_name w (d ∷ ds) = ap (λ b. same d.name w || b) (any_name w ds)

    behind_alike : (f : Name) (qs : List Param) (bs ds : List Decl) → names bs ≡ names ds → Alike prelude (known_behind false f qs ds) (known_behind prelude f qs bs)
    behind_alike f qs bs ds e = record {
      off = refl;
      on = refl;
      numbers = refl;
      taken = λ w. ap (λ b. same f w || (list_any (λ q. same (param_name q) w) qs || b)) (any_name w bs ∙ ap (list_any (λ x. same x w)) e ∙ sym (any_name w ds));
    }

    params_more : (f : Name) (before qs : List Param) → params_known false f before qs ≡ true → params_known prelude f before qs ≡ true
    params_more f before [] h = refl
    params_more f before (q ∷ qs) h =
        let p = and_parts (param_known (known_behind false f before []) q) (params_known false f (before ++ q ∷ []) qs) h in
        and_from _ _ (one q p.0) (params_more f (before ++ q ∷ []) qs p.1)
      where
        a : Alike prelude (known_behind false f before []) (known_behind prelude f before [])
        a = behind_alike f before [] [] refl

        one : (x : Param) → param_known (known_behind false f before []) x ≡ true → param_known (known_behind prelude f before []) x ≡ true
        one (Number w low high) k = let r = and_parts (is_new (known_behind false f before []) false w) _ k in and_from _ _ (new_more prelude _ _ a false w r.0) r.1
        one (Array d) k =
            let r = and_parts (is_new (known_behind false f before []) false d.name) _ k in
            let t = and_parts (not (is_temp d.role)) (extents_known (known_behind false f before []) d.extents) r.1 in
            let u = and_parts (not (is_none d.extents)) (ixs_known (known_behind false f before []) d.extents) t.1 in
            and_from _ _ (new_more prelude _ _ a false d.name r.0) (and_from _ _ t.0 (and_from _ _ u.0 (ixs_more prelude _ _ a d.extents u.1)))

    moduli_known : (new : Known) (bs : List Affine) → first ≤ new.numbers → ((j : ℕ) (b : Affine) → slice_get bs j ≡ Some b → IsPrintable first b) → ixs_known new (map (printed first) bs) ≡ true
    moduli_known new [] l h = refl
    moduli_known new (b ∷ bs) l h = and_from _ _ (printed_known new first b (h 0 b refl) l (omega arith)) (moduli_known new bs l (λ j c e. h (suc j) c e))

    decl_name : (o : Option Fold) (d : Decl) → (decl_by o first d).name ≡ d.name
    decl_name None d = refl
    decl_name (Some fold) d = refl

    temp_more : (old new : Known) → Alike prelude old new → first ≤ new.numbers → (array : ℕ) (d : Decl) → temp_known old d ≡ true → (o : Option Fold) → fold_at_work source folds array ≡ o → temp_known new (decl_by o first d) ≡ true
    temp_more old new a l array d h o e = by o e
      where
        p : (is_new old false d.name ≡ true) × (is_temp d.role && ixs_known old d.extents ≡ true)
        p = and_parts (is_new old false d.name) (is_temp d.role && ixs_known old d.extents) h

        q : (is_temp d.role ≡ true) × (ixs_known old d.extents ≡ true)
        q = and_parts (is_temp d.role) (ixs_known old d.extents) p.1

        by : (o : Option Fold) → fold_at_work source folds array ≡ o → temp_known new (decl_by o first d) ≡ true
        by None e = and_from _ _ (new_more prelude old new a false d.name p.0) (and_from _ _ q.0 (ixs_more prelude old new a d.extents q.1))
        by (Some fold) e = and_from _ _ (new_more prelude old new a false d.name p.0) (and_from _ _ q.0 (moduli_known new (forms_of fold.moduli) l (moduli_are source folds plain are limits array fold e)))

    names_last : (bs ds : List Decl) (b d : Decl) → names bs ≡ names ds → b.name ≡ d.name → names (bs ++ b ∷ []) ≡ names (ds ++ d ∷ [])
    names_last bs ds b d e f = split bs b ∙ ap (λ l. l ++ b.name ∷ []) e ∙ ap (λ w. names ds ++ w ∷ []) f ∙ sym (split ds d)
      where
        split : (xs : List Decl) (x : Decl) → names (xs ++ x ∷ []) ≡ names xs ++ x.name ∷ []
        split [] x = refl
        split (y ∷ xs) x = ap (λ l. y.name ∷ l) (split xs x)

    temps_more : (f : Name) (array : ℕ) (bs ds xs : List Decl) → names bs ≡ names ds → temps_known false f source.params ds xs ≡ true → temps_known prelude f source.params bs (decls_from first (extent_forms source) folds array xs) ≡ true
    temps_more f array bs ds [] e h = refl
    temps_more f array bs ds (x ∷ xs) e h =
        let p = and_parts (temp_known (known_behind false f source.params ds) x) (temps_known false f source.params (ds ++ x ∷ []) xs) h in
        let c = heads.numbers_are source.params in
        and_from _ _ (temp_more (known_behind false f source.params ds) (known_behind prelude f source.params bs) (behind_alike f source.params bs ds e) (omega (arith, c)) array x p.0 (fold_at_work source folds array) refl)
        (temps_more f (suc array) (bs ++ decl_by (fold_at_work source folds array) first x ∷ []) (ds ++ x ∷ []) xs (names_last bs ds (decl_by (fold_at_work source folds array) first x) x e (decl_name (fold_at_work source folds array) x)) p.1)

    names_kept : (array : ℕ) (xs : List Decl) → names (decls_from first (extent_forms source) folds array xs) ≡ names xs
    names_kept array [] = refl
    names_kept array (x ∷ xs) = ap (λ w. w ∷ names (decls_from first (extent_forms source) folds (suc array) xs)) (decl_name (fold_at_work source folds array) x) ∙ ap (λ l. x.name ∷ l) (names_kept (suc array) xs)

  -- ---- The program

  pub folded_known : source.prelude ≡ false → program_known source ≡ true → program_known (folded_program source folds) ≡ true
  folded_known off h =
      let other = folded_program source folds in
      let on = other.prelude in
      let f = source.name in
      let a = and_parts (is_function f) _ h in
      let b = and_parts (not (is_none source.params)) _ a.1 in
      let c = and_parts (params_known source.prelude f [] source.params) _ b.1 in
      let d = and_parts (context_known source) _ c.1 in
      let e = and_parts (temps_known source.prelude f source.params [] source.temps) _ d.1 in
      let params = sym (ap (λ p. params_known p f [] source.params) off) ∙ c.0 in
      let context = sym (ap (λ p. compares_known (known_behind p f source.params []) source.context) off) ∙ d.0 in
      let temps = sym (ap (λ p. temps_known p f source.params [] source.temps) off) ∙ e.0 in
      let body = sym (ap (λ p. all_at (known_behind p f source.params source.temps) (map stmt_known source.body)) off) ∙ e.1 in
      let old = known_behind false f source.params source.temps in
      let new = known_behind on f source.params (folded_temps source folds) in
      let q = numbers_are source.params in
      let sights : Sights on first old new = record {
        alike = behind_alike on f source.params (folded_temps source folds) source.temps (names_kept on (length (arrays_of source.params)) source.temps);
        count = heads.numbers_are source.params;
        arrays = ap (λ l. l ++ source.temps) (same_arrays source.params);
        new_arrays = ap (λ l. l ++ folded_temps source folds) (same_arrays source.params);
      } in
      and_from _ _ a.0
      (and_from _ _ b.0
      (and_from _ _ (params_more on f [] source.params params)
      (and_from _ _ (tests_more on (known_behind false f source.params []) (known_behind on f source.params []) (behind_alike on f source.params [] [] refl) source.context context)
      (and_from _ _ (temps_more on f (length (arrays_of source.params)) [] [] source.temps refl temps)
      (ap (λ fs. all_at new (map stmt_known (each_under fs first))) (unrolled (refold_step fresh) source.body)
      ∙ row_known on (row_of source.body) first 0 0 old new sights (omega (arith, q)) (omega arith) (subst (λ fs. all_of fs 0 0 ≡ true) (unrolled (plain_step numbers) source.body) plain.body)
      (ap (all_at old) (sym (unrolled known.stmt_step source.body)) ∙ body)
      (λ z. ap (λ fs. list_any (λ b. b) (map (by_stmt stmt_call_step) (each_under fs first))) (unrolled (refold_step fresh) source.body) ∙ z))))))
