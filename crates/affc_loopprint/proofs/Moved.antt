-- What is known of an expression, and how it is made, stays where more names stand in sight.
use Rattle.std.proofs.Common.{◌≡◌, ℕ, ◌+◌, ◌<◌, ◌≤◌, Bool, true, false, ◌&&◌, nat_lt, if◌then◌else◌, List, [], ◌∷◌, length, map, refl, sym, ap, ◌∙◌, arith}
use Rattle.std.specs.Prelude.{slice_get}
use Rattle.std.specs.List.{list_all}
use Rattle.std.proofs.lemmas.Bool.{and_parts, and_from, ltb-true, lt-ltb}
use Rattle.affc_ast.specs.declared.tree.Compare.{Compare}
use Rattle.affc_ast.specs.declared.tree.Decl.{Decl}
use Rattle.affc_ast.specs.declared.tree.Ix.{Ix}
use Rattle.affc_ast.specs.declared.tree.Ix.TheVariants as c
use Rattle.affc_ast.specs.declared.tree.Ix.TheBlock.{more_of-Ix, end_of-Ix}
use Rattle.affc_ast.specs.declared.tree.Val.{Val}
use Rattle.affc_ast.specs.declared.tree.Val.TheVariants as v
use Rattle.affc_ast.specs.declared.tree.Val.TheBlock.{more_of-Val, end_of-Val}
use Rattle.affc_ast.specs.Joined.{is_ordered}
use Rattle.affc_ast.proofs.Steps.{neg_here, floord_here, ceild_here, add_here, sub_here, mul_here, min_here, max_here, mod_here, not_here, bin_here, shift_here}
use Rattle.affc_domain.proofs.Lists.{length_map}
use Rattle.affc_loops.specs.Trees.{moved, moved_value}
use Rattle.affc_cprint.specs.Forms.{Form, both, product, quotient, is_within, form, form_step, value_passes, value_step as passes_step}
use Rattle.affc_wellnamed.specs.Known.{Known, is_divisor, ix_step, ix_known, ixs_known, compare_known, compares_known, takes, value_step, value_known}
use Rattle.affc_wellnamed.specs.Plain.{is_plain}
use Rattle.affc_wellnamed.specs.Work.{load_step, loads}
use Rattle.affc_wellnamed.specs.Shape.{plus}

-- ---- Names in sight

module _ (old new : Known) (calls : old.prelude ≡ true → new.prelude ≡ true) where
  called : (a b : Bool) → (a ≡ true → b ≡ true) → old.prelude && a ≡ true → new.prelude && b ≡ true
  called a b f h = let p = and_parts old.prelude a h in and_from new.prelude b (calls p.0) (f p.1)

  two : (a b a' b' : Bool) → (a ≡ true → a' ≡ true) → (b ≡ true → b' ≡ true) → a && b ≡ true → a' && b' ≡ true
  two a b a' b' f g h = let p = and_parts a b h in and_from a' b' (f p.0) (g p.1)

  -- where at least as many names are known
  module _ (numbers : old.numbers ≤ new.numbers) where
    pub wider : (e : Ix) → ix_known old e ≡ true → ix_known new e ≡ true
    wider (c.Lit n) h = h
    wider (c.Name x) h = let l : x.0 < old.numbers = ltb-true x.0 old.numbers h in lt-ltb x.0 new.numbers (omega (arith, l, numbers))
    wider (c.Neg' s (more_of-Ix a end_of-Ix)) h = wider a h
    wider (c.Floord' s (more_of-Ix a end_of-Ix) n) h = called _ _ (two (is_divisor n) _ (is_divisor n) _ (λ e. e) (wider a)) h
    wider (c.Ceild' s (more_of-Ix a end_of-Ix) n) h = called _ _ (two (is_divisor n) _ (is_divisor n) _ (λ e. e) (wider a)) h
    wider (c.Add' s (more_of-Ix a end_of-Ix) t (more_of-Ix b end_of-Ix)) h = two _ _ _ _ (wider a) (wider b) h
    wider (c.Sub' s (more_of-Ix a end_of-Ix) t (more_of-Ix b end_of-Ix)) h = two _ _ _ _ (wider a) (wider b) h
    wider (c.Mul' s (more_of-Ix a end_of-Ix) t (more_of-Ix b end_of-Ix)) h = two _ _ _ _ (wider a) (wider b) h
    wider (c.Min' s (more_of-Ix a end_of-Ix) t (more_of-Ix b end_of-Ix)) h = called _ _ (two _ _ _ _ (wider a) (wider b)) h
    wider (c.Max' s (more_of-Ix a end_of-Ix) t (more_of-Ix b end_of-Ix)) h = called _ _ (two _ _ _ _ (wider a) (wider b)) h
    wider (c.Mod' s (more_of-Ix a end_of-Ix) t (more_of-Ix b end_of-Ix)) h = called _ _ (two _ _ _ _ (wider a) (wider b)) h

    pub all_wider : (es : List Ix) → ixs_known old es ≡ true → ixs_known new es ≡ true
    all_wider [] h = refl
    all_wider (e ∷ es) h = two _ _ _ _ (wider e) (all_wider es) h

    pub tests_wider : (cs : List Compare) → compares_known old cs ≡ true → compares_known new cs ≡ true
    tests_wider [] h = refl
    tests_wider (d ∷ cs) h = two (compare_known old d) _ (compare_known new d) _ (two (is_ordered d.rel) _ (is_ordered d.rel) _ (λ e. e) (two _ _ _ _ (wider d.left) (wider d.right))) (tests_wider cs) h

  -- where so many more are known, behind the first ones
  module _ (first more : ℕ) (numbers : old.numbers + more ≤ new.numbers) where
    name_known : (b : Bool) (x : ℕ) → x < old.numbers → nat_lt (if b then x else x + more) new.numbers ≡ true
    name_known true x h = lt-ltb x new.numbers (omega (arith, h, numbers))
    name_known false x h = lt-ltb (x + more) new.numbers (omega (arith, h, numbers))

    pub moved_known : (e : Ix) → ix_known old e ≡ true → ix_known new (moved first more e) ≡ true
    moved_known (c.Lit n) h = h
    moved_known (c.Name x) h = name_known (nat_lt x.0 first) x.0 (ltb-true x.0 old.numbers h)
    moved_known (c.Neg' s (more_of-Ix a end_of-Ix)) h = neg_here (ix_step new) (moved first more a) ∙ moved_known a h
    moved_known (c.Floord' s (more_of-Ix a end_of-Ix) n) h = floord_here (ix_step new) (moved first more a) n ∙ called _ _ (two (is_divisor n) _ (is_divisor n) _ (λ e. e) (moved_known a)) h
    moved_known (c.Ceild' s (more_of-Ix a end_of-Ix) n) h = ceild_here (ix_step new) (moved first more a) n ∙ called _ _ (two (is_divisor n) _ (is_divisor n) _ (λ e. e) (moved_known a)) h
    moved_known (c.Add' s (more_of-Ix a end_of-Ix) t (more_of-Ix b end_of-Ix)) h = add_here (ix_step new) (moved first more a) (moved first more b) ∙ two _ _ _ _ (moved_known a) (moved_known b) h
    moved_known (c.Sub' s (more_of-Ix a end_of-Ix) t (more_of-Ix b end_of-Ix)) h = sub_here (ix_step new) (moved first more a) (moved first more b) ∙ two _ _ _ _ (moved_known a) (moved_known b) h
    moved_known (c.Mul' s (more_of-Ix a end_of-Ix) t (more_of-Ix b end_of-Ix)) h = mul_here (ix_step new) (moved first more a) (moved first more b) ∙ two _ _ _ _ (moved_known a) (moved_known b) h
    moved_known (c.Min' s (more_of-Ix a end_of-Ix) t (more_of-Ix b end_of-Ix)) h = min_here (ix_step new) (moved first more a) (moved first more b) ∙ called _ _ (two _ _ _ _ (moved_known a) (moved_known b)) h
    moved_known (c.Max' s (more_of-Ix a end_of-Ix) t (more_of-Ix b end_of-Ix)) h = max_here (ix_step new) (moved first more a) (moved first more b) ∙ called _ _ (two _ _ _ _ (moved_known a) (moved_known b)) h
    moved_known (c.Mod' s (more_of-Ix a end_of-Ix) t (more_of-Ix b end_of-Ix)) h = mod_here (ix_step new) (moved first more a) (moved first more b) ∙ called _ _ (two _ _ _ _ (moved_known a) (moved_known b)) h

    pub all_moved_known : (es : List Ix) → ixs_known old es ≡ true → ixs_known new (map (moved first more) es) ≡ true
    all_moved_known [] h = refl
    all_moved_known (e ∷ es) h = two _ _ _ _ (moved_known e) (all_moved_known es) h

    module _ (arrays : old.arrays ≡ new.arrays) where
      pub moved_takes : (is_store : Bool) (array : ℕ) (subs : List Ix) → takes is_store (length subs) (slice_get old.arrays array) ≡ true → takes is_store (length (map (moved first more) subs)) (slice_get new.arrays array) ≡ true
      moved_takes is_store array subs h = ap (λ n. takes is_store n (slice_get new.arrays array)) (length_map (moved first more) subs) ∙ ap (λ (ds : List Decl). takes is_store (length subs) (slice_get ds array)) (sym arrays) ∙ h

      pub moved_value_known : (e : Val) → value_known old e ≡ true → value_known new (moved_value first more e) ≡ true
      moved_value_known (v.Load array subs) h = two _ _ _ _ (moved_takes false array.0 subs) (all_moved_known subs) h
      moved_value_known (v.Const n) h = h
      moved_value_known (v.Cast e) h = moved_known e h
      moved_value_known (v.Not' s (more_of-Val a end_of-Val)) h = not_here (value_step new) (moved_value first more a) ∙ moved_value_known a h
      moved_value_known (v.Bin' op s (more_of-Val a end_of-Val) t (more_of-Val b end_of-Val)) h = bin_here (value_step new) op (moved_value first more a) (moved_value first more b) ∙ two _ _ _ _ (moved_value_known a) (moved_value_known b) h
      moved_value_known (v.Shift' left s (more_of-Val a end_of-Val) by) h = shift_here (value_step new) left (moved_value first more a) by ∙ two _ _ _ _ (λ e. e) (moved_value_known a) h

-- ---- Forms and loads

module _ (first more : ℕ) where
  pairs : (f : Form → Form → Form) (x : Form) (a b : Ix) → x ≡ f (form (moved first more a)) (form (moved first more b)) → form (moved first more a) ≡ form a → form (moved first more b) ≡ form b → x ≡ f (form a) (form b)
  pairs f x a b e g h = e ∙ ap (λ z. f z (form (moved first more b))) g ∙ ap (f (form a)) h

  pub moved_form : (e : Ix) → form (moved first more e) ≡ form e
  moved_form (c.Lit n) = refl
  moved_form (c.Name x) = refl
  moved_form (c.Neg' s (more_of-Ix a end_of-Ix)) = neg_here form_step (moved first more a) ∙ moved_form a
  moved_form (c.Floord' s (more_of-Ix a end_of-Ix) n) = floord_here form_step (moved first more a) n ∙ ap (λ f. quotient f (is_within n)) (moved_form a)
  moved_form (c.Ceild' s (more_of-Ix a end_of-Ix) n) = ceild_here form_step (moved first more a) n ∙ ap (λ f. quotient f (is_within n)) (moved_form a)
  moved_form (c.Add' s (more_of-Ix a end_of-Ix) t (more_of-Ix b end_of-Ix)) = pairs both _ a b (add_here form_step (moved first more a) (moved first more b)) (moved_form a) (moved_form b)
  moved_form (c.Sub' s (more_of-Ix a end_of-Ix) t (more_of-Ix b end_of-Ix)) = pairs both _ a b (sub_here form_step (moved first more a) (moved first more b)) (moved_form a) (moved_form b)
  moved_form (c.Mul' s (more_of-Ix a end_of-Ix) t (more_of-Ix b end_of-Ix)) = pairs product _ a b (mul_here form_step (moved first more a) (moved first more b)) (moved_form a) (moved_form b)
  moved_form (c.Min' s (more_of-Ix a end_of-Ix) t (more_of-Ix b end_of-Ix)) = pairs both _ a b (min_here form_step (moved first more a) (moved first more b)) (moved_form a) (moved_form b)
  moved_form (c.Max' s (more_of-Ix a end_of-Ix) t (more_of-Ix b end_of-Ix)) = pairs both _ a b (max_here form_step (moved first more a) (moved first more b)) (moved_form a) (moved_form b)
  moved_form (c.Mod' s (more_of-Ix a end_of-Ix) t (more_of-Ix b end_of-Ix)) = pairs both _ a b (mod_here form_step (moved first more a) (moved first more b)) (moved_form a) (moved_form b)

  pub moved_plain : (e : Ix) → is_plain (moved first more e) ≡ is_plain e
  moved_plain e = ap (λ f. f.affine && f.small) (moved_form e)

  pub all_moved_plain : (es : List Ix) → list_all is_plain (map (moved first more) es) ≡ list_all is_plain es
  all_moved_plain [] = refl
  all_moved_plain (e ∷ es) = ap (λ b. b && list_all is_plain (map (moved first more) es)) (moved_plain e) ∙ ap (λ b. is_plain e && b) (all_moved_plain es)

  pub moved_value_plain : (e : Val) → value_passes is_plain (moved_value first more e) ≡ value_passes is_plain e
  moved_value_plain (v.Load array subs) = all_moved_plain subs
  moved_value_plain (v.Const n) = refl
  moved_value_plain (v.Cast e) = moved_plain e
  moved_value_plain (v.Not' s (more_of-Val a end_of-Val)) = not_here (passes_step is_plain) (moved_value first more a) ∙ moved_value_plain a
  moved_value_plain (v.Bin' op s (more_of-Val a end_of-Val) t (more_of-Val b end_of-Val)) =
      bin_here (passes_step is_plain) op (moved_value first more a) (moved_value first more b)
      ∙ ap (λ z. z && value_passes is_plain (moved_value first more b)) (moved_value_plain a)
      ∙ ap (λ z. value_passes is_plain a && z) (moved_value_plain b)
  moved_value_plain (v.Shift' left s (more_of-Val a end_of-Val) by) = shift_here (passes_step is_plain) left (moved_value first more a) by ∙ moved_value_plain a

  pub moved_value_loads : (e : Val) → loads (moved_value first more e) ≡ loads e
  moved_value_loads (v.Load array subs) = refl
  moved_value_loads (v.Const n) = refl
  moved_value_loads (v.Cast e) = refl
  moved_value_loads (v.Not' s (more_of-Val a end_of-Val)) = not_here load_step (moved_value first more a) ∙ moved_value_loads a
  moved_value_loads (v.Bin' op s (more_of-Val a end_of-Val) t (more_of-Val b end_of-Val)) =
      bin_here load_step op (moved_value first more a) (moved_value first more b)
      ∙ ap (λ z. plus z (loads (moved_value first more b))) (moved_value_loads a)
      ∙ ap (plus (loads a)) (moved_value_loads b)
  moved_value_loads (v.Shift' left s (more_of-Val a end_of-Val) by) = shift_here load_step left (moved_value first more a) by ∙ moved_value_loads a
