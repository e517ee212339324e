-- Small affine expressions are read in `int64_t` where the names keep near.
use Rattle.std.proofs.Common.{◌≡◌, ℕ, zero, suc, ◌+◌, ◌*◌, ◌^◌, ◌<◌, ◌≤◌, ℤ, pos, negsuc, ◌+ℤ◌, ◌-ℤ◌, ◌*ℤ◌, ◌≤ℤ◌, neg_ℤ, Bool, true, false, ◌&&◌, if◌then◌else◌, IsTrue, List, [], ◌∷◌, ◌++◌, length, get_or, Result, Ok, refl, sym, ap, subst, ◌∙◌, arith}
use Rattle.std.specs.Prelude.{unsigned_abs, nat_le, nat_abs, ◌||◌}
use Rattle.std.proofs.lemmas.Bool.{leb-true, lt-ltb}
use Rattle.std.proofs.lemmas.Int.{ints, unsigned_abs-mul}
use Rattle.std.proofs.Math.Nat.{mul-le-mul_left, mul-le-mul_right}
use Rattle.affc_rows.specs.Forms.{Affine, dot, value}
use Rattle.affc_rows.proofs.IntLemmas.{abs-add}
use Rattle.affc_system.specs.Boxes.{InBox}
use Rattle.affc_ast.specs.declared.tree.Cond.{Cond}
use Rattle.affc_ast.specs.declared.tree.Cond.TheVariants as d
use Rattle.affc_ast.specs.declared.tree.Cond.TheBlock.{Row_of-Cond, more_of-Cond, end_of-Cond}
use Rattle.affc_ast.specs.declared.tree.Ix.{Ix}
use Rattle.affc_ast.specs.declared.tree.Ix.TheVariants as c
use Rattle.affc_ast.specs.declared.tree.Ix.TheBlock.{more_of-Ix, end_of-Ix}
use Rattle.affc_ast.specs.declared.tree.Val.{Val}
use Rattle.affc_ast.specs.declared.tree.Val.TheVariants as v
use Rattle.affc_ast.specs.declared.tree.Val.TheBlock.{more_of-Val, end_of-Val}
use Rattle.affc_ast.specs.Cause.{Cause, ◌>>=◌}
use Rattle.affc_ast.specs.Conditions.{all_read, some_read, reading_step, nodes_of_cond, condition}
use Rattle.affc_ast.specs.Fits.{whole, all_true, some_true, truth_step, is_true_at}
use Rattle.affc_ast.specs.Index.{is_int64, in_int64, index_value, nodes_of_ix}
use Rattle.affc_ast.specs.Recursion.{by_entries}
use Rattle.affc_trace.proofs.LastStores.{append_nil}
use Rattle.affc_trace.proofs.Members.{both_hold}
use Rattle.affc_trace.proofs.Runs.{length_append}
use Rattle.affc_domain.specs.Affine.{linear, sees, is_small, are_small, form_of}
use Rattle.affc_domain.specs.Ranges.{is_near}
use Rattle.affc_domain.proofs.FormLemmas.{same_affine, value_of_form, three}
use Rattle.affc_domain.specs.Plain.{is_plain, all_plain, plain_cond_step, plain_cond, plain_value}
use Rattle.affc_domain.proofs.Lists.{neg_size}
use Rattle.affc_safe.specs.Overflow.{near_ranges, IsReadable, AreReadable, ReadsValue}
use Rattle.affc_safe.proofs.Wants.{IsReadableCond, int64_ok, bind_to, chosen}

-- ---- near numbers

abbrev pub AreNear : List ℤ → Type 0
AreNear [] = Unit {0}
AreNear (x ∷ xs) = (unsigned_abs x ≤ 2 ^ 31) × AreNear xs

-- at most 16 names, each within 2^31 in magnitude
pub record Near (names : List ℤ) : Type 0 where
  pub few : length names ≤ 16
  pub each : AreNear names

pub near_push : (xs : List ℤ) (x : ℤ) → Near xs → length xs < 16 → unsigned_abs x ≤ 2 ^ 31 → Near (xs ++ x ∷ [])
near_push xs x n l h = record { few = let k : length (xs ++ x ∷ []) ≡ length xs + 1 = length_append xs (x ∷ []) in omega arith; each = push xs n.each }
  where
    push : (xs : List ℤ) → AreNear xs → AreNear (xs ++ x ∷ [])
    push [] n = (h, tt)
    push (y ∷ xs) n = (n.0, push xs n.1)

between : (low high x : ℤ) → low ≤ℤ x → x ≤ℤ high → unsigned_abs low ≤ 2 ^ 31 → unsigned_abs high ≤ 2 ^ 31 → unsigned_abs x ≤ 2 ^ 31
between low (pos m) (pos n) l h a b = omega (arith, ints)
between low (negsuc m) (pos n) l h a b = absurd (omega (arith, ints))
between (pos m) high (negsuc n) l h a b = absurd (omega (arith, ints))
between (negsuc m) high (negsuc n) l h a b = omega (arith, ints)

pub near_between : (low high x : ℤ) → low ≤ℤ x → x ≤ℤ high → IsTrue (is_near low && is_near high) → unsigned_abs x ≤ 2 ^ 31
near_between low high x l h n =
    let b = both_hold (is_near low) (is_near high) n in
    between low high x l h (leb-true (nat_abs low) (2 ^ 31) b.0) (leb-true (nat_abs high) (2 ^ 31) b.1)

pub box_near : (rs : List (ℤ × ℤ)) (xs : List ℤ) → InBox rs xs → IsTrue (near_ranges rs) → AreNear xs
box_near [] [] b n = tt
box_near [] (x ∷ xs) b n = absurd b
box_near (r ∷ rs) [] b n = absurd b
box_near (r ∷ rs) (x ∷ xs) b n =
    let t = both_hold (is_near r.0 && is_near r.1) (near_ranges rs) n in
    (near_between r.0 r.1 x b.0 b.1 t.0, box_near rs xs b.2 t.1)

near_get : (xs : List ℤ) (j : ℕ) → AreNear xs → unsigned_abs (get_or xs j (pos 0)) ≤ 2 ^ 31
near_get [] j n = omega arith
near_get (x ∷ xs) zero n = n.0
near_get (x ∷ xs) (suc j) n = near_get xs j n.1

-- ---- values of small forms

product_near : (a b : ℕ) → a ≤ 65536 → b ≤ 2 ^ 31 → a * b ≤ 2 ^ 47
product_near a b h k =
    let p : a * b ≤ a * 2 ^ 31 = mul-le-mul_left a k in
    let q : a * 2 ^ 31 ≤ 65536 * 2 ^ 31 = mul-le-mul_right (2 ^ 31) h in
    omega arith

dot_near : (cs xs : List ℤ) → IsTrue (are_small cs) → AreNear xs → unsigned_abs (dot cs xs) ≤ length xs * 2 ^ 47
dot_near [] xs s n = omega arith
dot_near (a ∷ cs) [] s n = omega arith
dot_near (a ∷ cs) (x ∷ xs) s n =
    let t = both_hold (nat_le (nat_abs a) 65536) (are_small cs) s in
    let small : unsigned_abs a ≤ 65536 = leb-true (nat_abs a) 65536 t.0 in
    let first : unsigned_abs a * unsigned_abs x ≤ 2 ^ 47 = product_near (unsigned_abs a) (unsigned_abs x) small n.0 in
    let m : unsigned_abs (a *ℤ x) ≡ unsigned_abs a * unsigned_abs x = unsigned_abs-mul a x in
    let rest : unsigned_abs (dot cs xs) ≤ length xs * 2 ^ 47 = dot_near cs xs t.1 n.1 in
    let both : unsigned_abs ((a *ℤ x) +ℤ dot cs xs) ≤ unsigned_abs (a *ℤ x) + unsigned_abs (dot cs xs) = abs-add (a *ℤ x) (dot cs xs) in
    omega arith

-- below 2^52 in magnitude
value_near : (f : Affine) (xs : List ℤ) → IsTrue (is_small f) → AreNear xs → length xs ≤ 16 → unsigned_abs (value f xs) ≤ 2 ^ 52
value_near f xs s n l =
    let t = both_hold (nat_le (nat_abs f.constant) 16777216) (are_small f.coefs) s in
    let k : unsigned_abs f.constant ≤ 16777216 = leb-true (nat_abs f.constant) 16777216 t.0 in
    let d : unsigned_abs (dot f.coefs xs) ≤ length xs * 2 ^ 47 = dot_near f.coefs xs t.1 n in
    let both : unsigned_abs (dot f.coefs xs +ℤ f.constant) ≤ unsigned_abs (dot f.coefs xs) + unsigned_abs f.constant = abs-add (dot f.coefs xs) f.constant in
    omega arith

-- ---- expressions

pub small_is_int64 : (z : ℤ) → unsigned_abs z < 2 ^ 63 → is_int64 z ≡ true
small_is_int64 (pos n) h = lt-ltb n (2 ^ 63) (omega (arith, ints))
small_is_int64 (negsuc n) h = lt-ltb n (2 ^ 63) (omega (arith, ints))

module _ (names : List ℤ) (near : Near names) where
  abbrev Affine_ : Ix → Type 0
  Affine_ e = IsTrue (linear (length names) 0 e).affine

  -- its whole value, where its form is small
  at_node : (e : Ix) → Affine_ e → IsTrue (is_small (form_of (length names) 0 e)) → unsigned_abs (whole e names) ≤ 2 ^ 52
  at_node e a s =
      let v : value (form_of (length names) 0 e) (names ++ []) ≡ whole e names = value_of_form names [] e (same_affine 0 0 (length names) 0 e ∙ a) in
      let w : value (form_of (length names) 0 e) names ≡ whole e names = ap (value (form_of (length names) 0 e)) (sym (append_nil names)) ∙ v in
      subst (λ z. unsigned_abs z ≤ 2 ^ 52) w (value_near (form_of (length names) 0 e) names s near.each near.few)

  -- it is read, and its value keeps within 2^52
  record Reads (e : Ix) : Type 0 where
    reads : IsReadable e names
    size : unsigned_abs (whole e names) ≤ 2 ^ 52

  fits : (z : ℤ) (node : ℕ) → unsigned_abs z ≤ 2 ^ 52 → in_int64 node z ≡ Ok z
  fits z node h = int64_ok node z (small_is_int64 z (omega arith))

  read_both : (a b : Ix) (f : ℕ → ℤ → ℤ → Result ℤ Cause) (z : ℤ) → Reads a → Reads b → ((node : ℕ) → f node (whole a names) (whole b names) ≡ Ok z)
      → (node : ℕ) → index_value a (node + 1) names >>= (λ x. index_value b (node + 1 + nodes_of_ix a) names >>= f node x) ≡ Ok z
  read_both a b f z r q h node =
      bind_to (index_value a (node + 1) names) (whole a names) _ _ (r.reads (node + 1))
      (bind_to (index_value b (node + 1 + nodes_of_ix a) names) (whole b names) (f node (whole a names)) z (q.reads _) (h node))

  read : (e : Ix) → Affine_ e → IsTrue (linear (length names) 0 e).small → Reads e
  read (c.Lit k) a s = record { reads = λ node. refl; size = let b : unsigned_abs k ≤ 16777216 = leb-true (nat_abs k) 16777216 s in omega arith }
  read (c.Name x) a s = record { reads = λ node. refl; size = let b : unsigned_abs (get_or names x.0 (pos 0)) ≤ 2 ^ 31 = near_get names x.0 near.each in omega arith }
  read (c.Neg' t (more_of-Ix d end_of-Ix)) a s =
      let r = read d a s in
      let size : unsigned_abs (neg_ℤ (whole d names)) ≤ 2 ^ 52 = subst (λ n. n ≤ 2 ^ 52) (sym (neg_size (whole d names))) r.size in
      record {
        reads = λ node. bind_to (index_value d (node + 1) names) (whole d names) (λ x. in_int64 node (neg_ℤ x)) (neg_ℤ (whole d names)) (r.reads (node + 1)) (fits (neg_ℤ (whole d names)) node size);
        size = size;
      }
  read (c.Add' t (more_of-Ix d end_of-Ix) u (more_of-Ix e end_of-Ix)) a s =
      let k = three (linear (length names) 0 d).small (linear (length names) 0 e).small _ s in
      let h = both_hold (linear (length names) 0 d).affine (linear (length names) 0 e).affine a in
      let size : unsigned_abs (whole d names +ℤ whole e names) ≤ 2 ^ 52 = at_node (c.Add' t (more_of-Ix d end_of-Ix) u (more_of-Ix e end_of-Ix)) a k.2 in
      record { reads = read_both d e (λ node x y. in_int64 node (x +ℤ y)) _ (read d h.0 k.0) (read e h.1 k.1) (λ node. fits _ node size); size = size }
  read (c.Sub' t (more_of-Ix d end_of-Ix) u (more_of-Ix e end_of-Ix)) a s =
      let k = three (linear (length names) 0 d).small (linear (length names) 0 e).small _ s in
      let h = both_hold (linear (length names) 0 d).affine (linear (length names) 0 e).affine a in
      let size : unsigned_abs (whole d names -ℤ whole e names) ≤ 2 ^ 52 = at_node (c.Sub' t (more_of-Ix d end_of-Ix) u (more_of-Ix e end_of-Ix)) a k.2 in
      record { reads = read_both d e (λ node x y. in_int64 node (x -ℤ y)) _ (read d h.0 k.0) (read e h.1 k.1) (λ node. fits _ node size); size = size }
  read (c.Mul' t (more_of-Ix d end_of-Ix) u (more_of-Ix e end_of-Ix)) a s =
      let k = three (linear (length names) 0 d).small (linear (length names) 0 e).small _ s in
      let h = three (linear (length names) 0 d).affine (linear (length names) 0 e).affine _ a in
      let size : unsigned_abs (whole d names *ℤ whole e names) ≤ 2 ^ 52 = at_node (c.Mul' t (more_of-Ix d end_of-Ix) u (more_of-Ix e end_of-Ix)) a k.2 in
      record { reads = read_both d e (λ node x y. in_int64 node (x *ℤ y)) _ (read d h.0 k.0) (read e h.1 k.1) (λ node. fits _ node size); size = size }
  read (c.Min' t (more_of-Ix d end_of-Ix) u (more_of-Ix e end_of-Ix)) a s = absurd (cc)
  read (c.Max' t (more_of-Ix d end_of-Ix) u (more_of-Ix e end_of-Ix)) a s = absurd (cc)
  read (c.Floord' t (more_of-Ix d end_of-Ix) k) a s = absurd (cc)
  read (c.Ceild' t (more_of-Ix d end_of-Ix) k) a s = absurd (cc)
  read (c.Mod' t (more_of-Ix d end_of-Ix) u (more_of-Ix e end_of-Ix)) a s = absurd (cc)

pub plain_reads : (n : ℕ) (names : List ℤ) (e : Ix) → n ≡ length names → Near names → IsTrue (is_plain n e) → IsReadable e names
plain_reads n names e l near h = at_length (subst (λ m. IsTrue (is_plain m e)) l h)
  where
    at_length : IsTrue (is_plain (length names) e) → IsReadable e names
    at_length g =
        let t = both_hold (sees (length names) e) _ g in
        let u = both_hold (linear (length names) 0 e).affine (linear (length names) 0 e).small t.1 in
        (read names near e u.0 u.1).reads

pub all_plain_read : (n : ℕ) (names : List ℤ) (es : List Ix) → n ≡ length names → Near names → IsTrue (all_plain n es) → AreReadable es names
all_plain_read n names [] l near h = tt
all_plain_read n names (e ∷ es) l near h =
    let t = both_hold (is_plain n e) (all_plain n es) h in
    (plain_reads n names e l near t.0, all_plain_read n names es l near t.1)

chosen_some : (b : Bool) (q : Result Bool Cause) (d : Bool) → q ≡ Ok d → (if b then Ok true else q) ≡ Ok (b || d)
chosen_some true q d h = refl
chosen_some false q d h = h

module _ (n : ℕ) (names : List ℤ) (l : n ≡ length names) (near : Near names) where
  mutual
    cond_reads : (x : Cond) → IsTrue (plain_cond n x) → IsReadableCond x names
    cond_reads (d.Compare rel left right) h node =
        let t = both_hold (is_plain n left) (is_plain n right) h in
        bind_to (index_value left (node + 1) names) (whole left names) _ _ (plain_reads n names left l near t.0 (node + 1))
        (bind_to (index_value right (node + 1 + nodes_of_ix left) names) (whole right names) _ _ (plain_reads n names right l near t.1 (node + 1 + nodes_of_ix left)) refl)
    cond_reads (d.All' shape entries) h node = all_reads entries h (node + 1)
    cond_reads (d.Any' shape entries) h node = some_reads entries h (node + 1)
    cond_reads (d.Divides value by so) h node =
        bind_to (index_value value (node + 1) names) (whole value names) _ _ (plain_reads n names value l near (both_hold (is_plain n value) _ h).0 (node + 1)) refl

    all_reads : {m : _} (entries : Row_of-Cond m) → IsTrue (all_true (by_entries (plain_cond_step n) entries)) → (node : ℕ)
        → all_read (by_entries reading_step entries) node names ≡ Ok (all_true (by_entries (truth_step names) entries))
    all_reads end_of-Cond h node = refl
    all_reads (more_of-Cond x rest) h node =
        let t = both_hold (plain_cond n x) (all_true (by_entries (plain_cond_step n) rest)) h in
        bind_to (condition x node names) (is_true_at x names) _ _ (cond_reads x t.0 node) (chosen (is_true_at x names) _ _ (λ e. all_reads rest t.1 (node + nodes_of_cond x)))

    some_reads : {m : _} (entries : Row_of-Cond m) → IsTrue (all_true (by_entries (plain_cond_step n) entries)) → (node : ℕ)
        → some_read (by_entries reading_step entries) node names ≡ Ok (some_true (by_entries (truth_step names) entries))
    some_reads end_of-Cond h node = refl
    some_reads (more_of-Cond x rest) h node =
        let t = both_hold (plain_cond n x) (all_true (by_entries (plain_cond_step n) rest)) h in
        bind_to (condition x node names) (is_true_at x names) _ _ (cond_reads x t.0 node) (chosen_some (is_true_at x names) _ _ (some_reads rest t.1 (node + nodes_of_cond x)))

pub plain_cond_reads : (n : ℕ) (names : List ℤ) (cond : Cond) → n ≡ length names → Near names → IsTrue (plain_cond n cond) → IsReadableCond cond names
plain_cond_reads n names cond l near h = cond_reads n names l near cond h

pub plain_value_read : (n : ℕ) (names : List ℤ) (e : Val) → n ≡ length names → Near names → IsTrue (plain_value e n) → ReadsValue e names
plain_value_read n names (v.Load array subs) l near h = all_plain_read n names subs l near h
plain_value_read n names (v.Const k) l near h = tt
plain_value_read n names (v.Cast e) l near h = plain_reads n names e l near h
plain_value_read n names (v.Not' t (more_of-Val a end_of-Val)) l near h = plain_value_read n names a l near h
plain_value_read n names (v.Bin' op t (more_of-Val a end_of-Val) u (more_of-Val b end_of-Val)) l near h =
    let k = both_hold (plain_value a n) (plain_value b n) h in
    (plain_value_read n names a l near k.0, plain_value_read n names b l near k.1)
plain_value_read n names (v.Shift' left t (more_of-Val a end_of-Val) by) l near h = plain_value_read n names a l near h
