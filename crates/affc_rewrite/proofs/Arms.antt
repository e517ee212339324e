-- Statements of each kind, with folded subscripts, and what is plain of them.
use Rattle.std.proofs.Common.{◌≡◌, ℕ, suc, ◌+◌, ◌<◌, ◌≤◌, Bool, true, false, ◌||◌, List, [], ◌∷◌, ◌++◌, length, map, drop, get_or, Option, sym, ap, ◌∙◌, arith}
use Rattle.std.specs.Prelude.{nat_le}
use Rattle.std.specs.List.{list_any}
use Rattle.std.proofs.lemmas.Bool.{leb-true, or_left, or_right}
use Rattle.affc_ast.specs.declared.tree.ArrayId.{ArrayId}
use Rattle.affc_ast.specs.declared.tree.Cond.{Cond}
use Rattle.affc_ast.specs.declared.tree.Ix.{Ix}
use Rattle.affc_ast.specs.declared.tree.Local.{Local}
use Rattle.affc_ast.specs.declared.tree.Op.{Op}
use Rattle.affc_ast.specs.declared.tree.Rel.{Rel}
use Rattle.affc_ast.specs.declared.tree.Stmt.{Stmt}
use Rattle.affc_ast.specs.declared.tree.Stmt.TheVariants as s
use Rattle.affc_ast.specs.declared.tree.Val.{Val}
use Rattle.affc_ast.specs.Recursion.{by_val, by_stmt}
use Rattle.affc_ast.proofs.Steps.{for_here, if_here, block_here}
use Rattle.affc_trace.proofs.EndedReads.{append_assoc}
use Rattle.affc_domain.specs.Plain.{all_plain, plain_value}
use Rattle.affc_domain.proofs.Lists.{both_true}
use Rattle.affc_foldloops.specs.Refolds.{Subscripts, refold_value, refold_step, each_under}
use Rattle.affc_nest.proofs.SiteLemmas.{front}
use Rattle.affc_rewrite.specs.Rewrite.{has_call, some_call, value_call_step, cond_calls, stmt_call_step}
use Rattle.affc_rewrite.specs.declared.subscripts.Folding.{Folding}
use Rattle.affc_rewrite.specs.Sizes.{IsWalk, all_under, accesses_step}

module _ (at : Subscripts) (n : ℕ) where
  abbrev refolded_all : ℕ → List Stmt → List Stmt
  refolded_all m body = each_under (map (by_stmt (refold_step at)) body) m

  pub for_arm : (x : Stmt) (iter : List ℕ) (low : Ix) (rel : Rel) (high : Ix) (body : List Stmt) → x ≡ s.For iter low rel high body → s.For iter low rel high (refolded_all (n + 1) body) ≡ by_stmt (refold_step at) x n
  for_arm x iter low rel high body g =
      let next : n + 1 ≡ suc n = omega arith in
      ap (λ m. s.For iter low rel high (refolded_all m body)) next ∙ sym (ap (λ f. f n) (for_here (refold_step at) iter low rel high body)) ∙ ap (λ y. by_stmt (refold_step at) y n) (sym g)

  pub if_arm : (x : Stmt) (cond : Cond) (body other : List Stmt) → x ≡ s.If cond body other → s.If cond (refolded_all n body) (refolded_all n other) ≡ by_stmt (refold_step at) x n
  if_arm x cond body other g = sym (ap (λ f. f n) (if_here (refold_step at) cond body other)) ∙ ap (λ y. by_stmt (refold_step at) y n) (sym g)

  pub assign_arm : (x : Stmt) (op : Option Op) (array : ArrayId) (subs : List Ix) (value : Val) → x ≡ s.Assign op array subs value
      → s.Assign op array (at n array subs) (refold_value at n value) ≡ by_stmt (refold_step at) x n
  assign_arm x op array subs value g = ap (λ y. by_stmt (refold_step at) y n) (sym g)

  pub block_arm : (x : Stmt) (locals : List Local) (body : List Stmt) → x ≡ s.Block locals body → s.Block locals (refolded_all (n + length locals) body) ≡ by_stmt (refold_step at) x n
  block_arm x locals body g = sym (ap (λ f. f n) (block_here (refold_step at) locals body)) ∙ ap (λ y. by_stmt (refold_step at) y n) (sym g)

-- more names in sight
pub walk_in : (f : Folding) (n k : ℕ) → IsWalk f n → n + k ≤ 16 → IsWalk f (n + k)
walk_in f n k w l = let b : f.parameters ≤ n = w.behind in record { folding = w.folding; behind = omega arith; short = l }

-- what the code makes of each kind
module _ (at : Subscripts) (n : ℕ) (x y : Stmt) (body slice made : List Stmt) (same : slice ≡ body) where
  pub for_made : (iter : List ℕ) (low : Ix) (rel : Rel) (high : Ix) → x ≡ s.For iter low rel high body → made ≡ refolded_all at n (n + 1) slice → y ≡ s.For iter low rel high made → y ≡ by_stmt (refold_step at) x n
  for_made iter low rel high g m e = e ∙ ap (s.For iter low rel high) (m ∙ ap (refolded_all at n (n + 1)) same) ∙ for_arm at n x iter low rel high body g

  pub if_made : (cond : Cond) (other part beside : List Stmt) → x ≡ s.If cond body other → part ≡ other → made ≡ refolded_all at n n slice → beside ≡ refolded_all at n n part → y ≡ s.If cond made beside → y ≡ by_stmt (refold_step at) x n
  if_made cond other part beside g c m b e =
      e ∙ ap (λ ss. s.If cond ss beside) (m ∙ ap (refolded_all at n n) same) ∙ ap (s.If cond (refolded_all at n n body)) (b ∙ ap (refolded_all at n n) c) ∙ if_arm at n x cond body other g

  pub block_made : (locals those : List Local) (k : ℕ) → x ≡ s.Block locals body → those ≡ locals → k ≡ n + length locals → made ≡ refolded_all at n k slice → y ≡ s.Block those made → y ≡ by_stmt (refold_step at) x n
  block_made locals those k g c l m e =
      e ∙ ap (λ ls. s.Block ls made) c ∙ ap (s.Block locals) (m ∙ ap (refolded_all at n k) same ∙ ap (λ k. refolded_all at n k body) l) ∙ block_arm at n x locals body g

-- what is plain in sight of so many names
module _ (n : ℕ) where
  abbrev all_within : ℕ → List Stmt → Bool
  all_within m body = all_under (map (by_stmt accesses_step) body) m

  pub for_plain : (x : Stmt) (iter : List ℕ) (low : Ix) (rel : Rel) (high : Ix) (body : List Stmt) → x ≡ s.For iter low rel high body → by_stmt accesses_step x n ≡ true
      → (n + 1 ≤ 16) × (all_within (n + 1) body ≡ true)
  for_plain x iter low rel high body g h =
      let q = both_true (nat_le (n + 1) 16) (all_within (n + 1) body) (sym (ap (λ y. by_stmt accesses_step y n) g ∙ ap (λ f. f n) (for_here accesses_step iter low rel high body)) ∙ h) in
      (leb-true (n + 1) 16 q.0, q.1)

  pub if_plain : (x : Stmt) (cond : Cond) (body other : List Stmt) → x ≡ s.If cond body other → by_stmt accesses_step x n ≡ true → (all_within n body ≡ true) × (all_within n other ≡ true)
  if_plain x cond body other g h = both_true (all_within n body) (all_within n other) (sym (ap (λ y. by_stmt accesses_step y n) g ∙ ap (λ f. f n) (if_here accesses_step cond body other)) ∙ h)

  pub assign_plain : (x : Stmt) (op : Option Op) (array : ArrayId) (subs : List Ix) (value : Val) → x ≡ s.Assign op array subs value → by_stmt accesses_step x n ≡ true
      → (all_plain n subs ≡ true) × (plain_value value n ≡ true)
  assign_plain x op array subs value g h = both_true (all_plain n subs) (plain_value value n) (sym (ap (λ y. by_stmt accesses_step y n) g) ∙ h)

  pub assign_subs : (x : Stmt) (op : Option Op) (array : ArrayId) (subs : List Ix) (value : Val) → x ≡ s.Assign op array subs value → by_stmt accesses_step x n ≡ true → all_plain n subs ≡ true
  assign_subs x op array subs value g h = (assign_plain x op array subs value g h).0

  pub assign_value : (x : Stmt) (op : Option Op) (array : ArrayId) (subs : List Ix) (value : Val) → x ≡ s.Assign op array subs value → by_stmt accesses_step x n ≡ true → plain_value value n ≡ true
  assign_value x op array subs value g h = (assign_plain x op array subs value g h).1

  pub block_plain : (x : Stmt) (locals : List Local) (body : List Stmt) → x ≡ s.Block locals body → by_stmt accesses_step x n ≡ true → (n + length locals ≤ 16) × (all_within (n + length locals) body ≡ true)
  block_plain x locals body g h =
      let q = both_true (nat_le (n + length locals) 16) (all_within (n + length locals) body) (sym (ap (λ y. by_stmt accesses_step y n) g ∙ ap (λ f. f n) (block_here accesses_step locals body)) ∙ h) in
      (leb-true (n + length locals) 16 q.0, q.1)

-- ---- One statement more of a list

pub plain_front : (n i : ℕ) (xs : List Stmt) (x : Stmt) → i < length xs → x ≡ get_or xs i x → all_within n n (drop i xs) ≡ true → (by_stmt accesses_step x n ≡ true) × (all_within n n (drop (i + 1) xs) ≡ true)
plain_front n i xs x h e p = both_true (by_stmt accesses_step x n) (all_within n n (drop (i + 1) xs)) (ap (all_within n n) (sym (front xs i x h e)) ∙ p)

pub first_plain : (n i : ℕ) (xs : List Stmt) (x : Stmt) → i < length xs → x ≡ get_or xs i x → all_within n n (drop i xs) ≡ true → by_stmt accesses_step x n ≡ true
first_plain n i xs x h e p = (plain_front n i xs x h e p).0

pub rest_plain : (n i : ℕ) (xs : List Stmt) (x : Stmt) → i < length xs → x ≡ get_or xs i x → all_within n n (drop i xs) ≡ true → all_within n n (drop (i + 1) xs) ≡ true
rest_plain n i xs x h e p = (plain_front n i xs x h e p).1

pub statement_front : (at : Subscripts) (n i : ℕ) (xs : List Stmt) (x y : Stmt) (made made' whole : List Stmt) → i < length xs → x ≡ get_or xs i x → y ≡ by_stmt (refold_step at) x n → made' ≡ made ++ y ∷ []
    → made ++ refolded_all at n n (drop i xs) ≡ whole → made' ++ refolded_all at n n (drop (i + 1) xs) ≡ whole
statement_front at n i xs x y made made' whole h e f g w =
    ap (λ ys. ys ++ refolded_all at n n (drop (i + 1) xs)) (g ∙ ap (λ z. made ++ z ∷ []) f)
    ∙ append_assoc made (by_stmt (refold_step at) x n ∷ []) (refolded_all at n n (drop (i + 1) xs))
    ∙ ap (λ ys. made ++ refolded_all at n n ys) (sym (front xs i x h e))
    ∙ w

-- ---- Calls

abbrev calls_in : List Stmt → Bool
calls_in body = list_any (λ b. b) (map (by_stmt stmt_call_step) body)

pub for_calls : (x : Stmt) (iter : List ℕ) (low : Ix) (rel : Rel) (high : Ix) (body : List Stmt) → x ≡ s.For iter low rel high body → (has_call low || (has_call high || calls_in body)) ≡ by_stmt stmt_call_step x
for_calls x iter low rel high body g = sym (ap (by_stmt stmt_call_step) g ∙ for_here stmt_call_step iter low rel high body)

pub if_calls : (x : Stmt) (cond : Cond) (body other : List Stmt) → x ≡ s.If cond body other → (cond_calls cond || (calls_in body || calls_in other)) ≡ by_stmt stmt_call_step x
if_calls x cond body other g = sym (ap (by_stmt stmt_call_step) g ∙ if_here stmt_call_step cond body other)

pub assign_calls : (x : Stmt) (op : Option Op) (array : ArrayId) (subs : List Ix) (value : Val) → x ≡ s.Assign op array subs value → (some_call subs || by_val value_call_step value) ≡ by_stmt stmt_call_step x
assign_calls x op array subs value g = sym (ap (by_stmt stmt_call_step) g)

pub block_calls : (x : Stmt) (locals : List Local) (body : List Stmt) → x ≡ s.Block locals body → (list_any (λ l. has_call l.value) locals || calls_in body) ≡ by_stmt stmt_call_step x
block_calls x locals body g = sym (ap (by_stmt stmt_call_step) g ∙ block_here stmt_call_step locals body)

-- where what comes first calls none
after_none : (a b r : Bool) (p : Bool) → a ≡ false → a ≡ p → r ≡ b → r ≡ p || b
after_none a b r p e f g = g ∙ ap (λ q. q || b) (sym e ∙ f)

pub for_rest : (x : Stmt) (iter : List ℕ) (low : Ix) (rel : Rel) (high : Ix) (body slice : List Stmt) (a b t : Bool) → x ≡ s.For iter low rel high body → slice ≡ body
    → a ≡ false → a ≡ has_call low → b ≡ false → b ≡ has_call high → t ≡ calls_in slice → t ≡ by_stmt stmt_call_step x
for_rest x iter low rel high body slice a b t is same p q r u inside =
    after_none a (has_call high || calls_in body) t (has_call low) p q (after_none b (calls_in body) t (has_call high) r u (inside ∙ ap calls_in same)) ∙ for_calls x iter low rel high body is

-- where the body calls one
pub if_first : (x : Stmt) (cond : Cond) (body other slice : List Stmt) (b : Bool) → x ≡ s.If cond body other → slice ≡ body → b ≡ true → b ≡ calls_in slice → b ≡ by_stmt stmt_call_step x
if_first x cond body other slice b is same r u =
    let h : calls_in body ≡ true = sym (u ∙ ap calls_in same) ∙ r in
    r ∙ sym (or_right (cond_calls cond) (calls_in body || calls_in other) (or_left (calls_in body) (calls_in other) h)) ∙ if_calls x cond body other is

pub if_rest : (x : Stmt) (cond : Cond) (body other slice part : List Stmt) (a b t : Bool) → x ≡ s.If cond body other → slice ≡ body → part ≡ other
    → a ≡ false → a ≡ cond_calls cond → b ≡ false → b ≡ calls_in slice → t ≡ calls_in part → t ≡ by_stmt stmt_call_step x
if_rest x cond body other slice part a b t is same alike p q r u inside =
    after_none a (calls_in body || calls_in other) t (cond_calls cond) p q (after_none b (calls_in other) t (calls_in body) r (u ∙ ap calls_in same) (inside ∙ ap calls_in alike)) ∙ if_calls x cond body other is

pub block_rest : (x : Stmt) (locals these : List Local) (body slice : List Stmt) (a t : Bool) → x ≡ s.Block locals body → these ≡ locals → slice ≡ body
    → a ≡ false → a ≡ list_any (λ l. has_call l.value) these → t ≡ calls_in slice → t ≡ by_stmt stmt_call_step x
block_rest x locals these body slice a t is those same p q inside =
    after_none a (calls_in body) t (list_any (λ l. has_call l.value) locals) p (q ∙ ap (list_any (λ l. has_call l.value)) those) (inside ∙ ap calls_in same) ∙ block_calls x locals body is
