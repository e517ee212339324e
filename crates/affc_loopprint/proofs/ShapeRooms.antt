-- What is printed of parts where what is printed of the whole is small, and of the whole by its parts.
use Rattle.std.proofs.Common.{◌≡◌, ℕ, ◌+◌, ◌-◌, ◌≤◌, true, max, List, [], ◌∷◌, map, refl, sym, ap, subst, arith}
use Rattle.affc_ast.specs.declared.tree.Compare.{Compare}
use Rattle.affc_ast.specs.declared.tree.Cond.{Cond}
use Rattle.affc_ast.specs.declared.tree.Stmt.{Stmt}
use Rattle.affc_ast.specs.declared.tree.Stmt.TheVariants.{If}
use Rattle.affc_wellnamed.specs.declared.shape.Extent.{Extent}
use Rattle.affc_wellnamed.specs.declared.shape.Shape.{Shape}
use Rattle.affc_wellnamed.specs.declared.shape.CondExtent.{CondExtent}
use Rattle.affc_wellnamed.specs.Shape.{nothing, compare_extent, cond_step, cond_extent, both, line, worded, closed, all_behind, stmt_step, stmt_shape}
use Rattle.affc_ast.proofs.Steps.{all_here, if_here}
use Rattle.affc_cprint.proofs.ReadBackValues.{Each}
use Rattle.affc_wellnamed.proofs.ShapeParts.{larger_is}
use Rattle.affc_wellnamed.proofs.ShapeStatements.{Numbers, joined, none}
use Rattle.affc_loopprint.proofs.reprint.Rows.{Under}
use Rattle.affc_loopprint.proofs.reprint.Values.{all_tokens, all_deep}
use Rattle.affc_loopprint.proofs.reprint.Conditions.{joined_tokens, joined_deep, joined_within}
use Rattle.affc_loopprint.proofs.reprint.Statements.{numbers_of, total, AtMost, most_self, behind_most}
use Rattle.affc_loops.specs.Loops.{as_condition, all_of, if_any}

-- at most so many tokens, so long a run, so many brackets
pub record Room (t r d : ℕ) (n : Numbers) : Type 0 where
  pub tokens : n.tokens ≤ t
  pub run : n.run ≤ r
  pub depth : n.depth ≤ d

-- numbers that no count stands still at
pub record Small (t r d : ℕ) : Type 0 where
  pub tokens : t ≤ 250000
  pub run : r ≤ 32000
  pub depth : d ≤ 240

pub small_less : (t r d t' d' : ℕ) → t' ≤ t → d' ≤ d → Small t r d → Small t' r d'
small_less t r d t' d' h k m = let a = m.tokens in let b = m.depth in record { tokens = omega (arith, a, h); run = m.run; depth = omega (arith, b, k) }

pub room_more : (t r d t' r' d' : ℕ) (n : Numbers) → t ≤ t' → r ≤ r' → d ≤ d' → Room t r d n → Room t' r' d' n
room_more t r d t' r' d' n h i j m = let a = m.tokens in let b = m.run in let c = m.depth in record { tokens = omega (arith, a, h); run = omega (arith, b, i); depth = omega (arith, c, j) }

pub room_under : (t r d : ℕ) (m n : Numbers) → AtMost m n → Room t r d n → Room t r d m
room_under t r d m n p h =
    let a = p.tokens in let b = p.run in let c = p.depth in let x = h.tokens in let y = h.run in let z = h.depth in
    record { tokens = omega (arith, a, x); run = omega (arith, b, y); depth = omega (arith, c, z) }

pub each_so : {A : Type 0} (P Q : A → Type 0) (xs : List A) → ((x : A) → P x → Q x) → Each P xs → Each Q xs
each_so P Q [] f h = tt
each_so P Q (x ∷ xs) f h = (f x h.0, each_so P Q xs f h.1)

-- ---- Parts of what is small

record Both (t r d : ℕ) (a b : Shape) : Type 0 where
  tokens : a.tokens + b.tokens ≤ t
  first_run : a.run ≤ r
  second_run : b.run ≤ r
  first_depth : a.depth ≤ d
  second_depth : b.depth ≤ d

both_parts : (t r d : ℕ) (a b : Shape) → Small t r d → Room t r d (numbers_of (both a b)) → Both t r d a b
both_parts t r d a b m h =
    let i = m.tokens in
    let x = h.tokens in let y = h.run in let z = h.depth in
    let k = larger_is a.run b.run in let l = larger_is a.depth b.depth in
    record { tokens = omega (arith, i, x); first_run = omega (arith, y, k); second_run = omega (arith, y, k); first_depth = omega (arith, z, l); second_depth = omega (arith, z, l) }

pub behind_parts : (t r d : ℕ) (a : Shape) (ss : List Shape) → Small t r d → Room t r d (numbers_of (all_behind a ss)) → Room t r d (numbers_of a) × Each (λ s. Room (t - a.tokens) r d (numbers_of s)) ss
behind_parts t r d a [] m h = (h, tt)
behind_parts t r d a (s ∷ ss) m h =
    let q = behind_parts t r d (both a s) ss m h in
    let p = both_parts t r d a s m q.0 in
    let x = p.tokens in let i = m.tokens in
    let less : t - (both a s).tokens ≤ t - a.tokens = omega (arith, x, i) in (
      record { tokens = omega (arith, x); run = p.first_run; depth = p.first_depth },
      (
        record { tokens = omega (arith, x); run = p.second_run; depth = p.second_depth },
        each_so _ _ ss (λ u k. room_more (t - (both a s).tokens) r d (t - a.tokens) r d (numbers_of u) less (omega arith) (omega arith) k) q.1,
      ),
    )

-- items too
pub behind_items : (a : Shape) (ss : List Shape) (n : ℕ) → n ≤ 256 → (all_behind a ss).items ≤ n → a.items ≤ n
behind_items a [] n h k = k
behind_items a (s ∷ ss) n h k = let q = behind_items (both a s) ss n h k in omega (arith, q, h)

pub record Inside (t r d : ℕ) (a : Shape) : Type 0 where
  pub some_tokens : 1 ≤ t
  pub some_depth : 1 ≤ d
  pub room : Room (t - 1) r (d - 1) (numbers_of a)

pub closed_parts : (t r d : ℕ) (a : Shape) → Small t r d → Room t r d (numbers_of (closed a)) → Inside t r d a
closed_parts t r d a m h =
    let i = m.tokens in let j = m.depth in
    let x = h.tokens in let y = h.run in let z = h.depth in
    let k = larger_is a.run (line 0 nothing).run in let l = larger_is a.depth (line 0 nothing).depth in
    record { some_tokens = omega (arith, i, x); some_depth = omega (arith, j, z, l); room = record { tokens = omega (arith, i, x); run = omega (arith, y, k); depth = omega (arith, j, z, l) } }

-- ---- What is printed by its parts

abbrev pub printed : List Stmt → List Shape
printed xs = map (stmt_shape true) xs

pub most_then : (a b c : Numbers) → AtMost a b → AtMost b c → AtMost a c
most_then a b c p q =
    let t = p.tokens in let r = p.run in let d = p.depth in let i = p.items in
    let t' = q.tokens in let r' = q.run in let d' = q.depth in let i' = q.items in
    record { tokens = omega (arith, t, t'); run = omega (arith, r, r'); depth = omega (arith, d, d'); items = omega (arith, i, i') }

-- the parts of what is printed behind a shape, where that is less than the greatest number
pub behind_total : (a : Shape) (ss : List Shape) (m : Numbers) → m.tokens ≤ 16777216 → m.items ≤ 16777216 → AtMost (numbers_of (all_behind a ss)) m → AtMost (joined (numbers_of a) (total ss)) m
behind_total a [] m t i p = let x = p.tokens in let r = p.run in let d = p.depth in let y = p.items in record { tokens = omega (arith, x); run = omega (arith, r); depth = omega (arith, d); items = omega (arith, y) }
behind_total a (s ∷ ss) m t i p =
    let q = behind_total (both a s) ss m t i p in
    let x = q.tokens in let r = q.run in let d = q.depth in let y = q.items in
    let k = larger_is a.run s.run in let l = larger_is a.depth s.depth in
    record { tokens = omega (arith, x, t); run = omega (arith, r, k); depth = omega (arith, d, l); items = omega (arith, y, i) }

-- they are no more than with a shape before them
pub most_behind : (a : Shape) (ss : List Shape) → AtMost (total ss) (joined (numbers_of a) (total ss))
most_behind a ss = record { tokens = omega arith; run = omega arith; depth = omega arith; items = omega arith }

-- under conditions that are printed so
abbrev pub under_test : Extent → Numbers → Numbers
under_test c b = record { tokens = c.tokens + 5 + b.tokens; run = max (c.tokens + 3) b.run; depth = max c.depth b.depth + 1; items = b.items + 1 }

-- behind a head, up to the brace that closes the body
pub closed_most : (a : Shape) (m : Numbers) (ss : List Shape) (n : Numbers) → AtMost (numbers_of a) m → AtMost (total ss) n
    → AtMost (numbers_of (closed (all_behind a ss))) (record { tokens = m.tokens + n.tokens + 1; run = max m.run n.run; depth = max m.depth n.depth + 1; items = m.items + n.items })
closed_most a m ss n h k =
    let all = all_behind a ss in
    let p = behind_most a m ss h in
    let t = p.tokens in let r = p.run in let d = p.depth in let i = p.items in
    let t' = k.tokens in let r' = k.run in let d' = k.depth in let i' = k.items in
    let x = larger_is all.run (line 0 nothing).run in let y = larger_is all.depth (line 0 nothing).depth in
    record { tokens = omega (arith, t, t'); run = omega (arith, r, r', x); depth = omega (arith, d, d', y); items = omega (arith, i, i') }

test_most : (c : Extent) (ss : List Shape) → AtMost (joined (numbers_of (worded (closed (all_behind (line 3 c) ss)))) none) (under_test c (total ss))
test_most c ss =
    let p = closed_most (line 3 c) (record { tokens = c.tokens + 4; run = c.tokens + 3; depth = c.depth; items = 0 }) ss (total ss) (record { tokens = omega arith; run = omega arith; depth = omega arith; items = omega arith }) (most_self (total ss)) in
    let t = p.tokens in let r = p.run in let d = p.depth in let i = p.items in
    record { tokens = omega (arith, t); run = omega (arith, r); depth = omega (arith, d); items = omega (arith, i) }

-- without an `else`
pub if_most : (cond : Cond) (body : List Stmt) → AtMost (total (printed (If cond body [] ∷ []))) (under_test (cond_extent true cond).extent (total (printed body)))
if_most cond body =
    let e = (cond_extent true cond).extent in
    subst (λ s. AtMost (joined (numbers_of s) none) (under_test e (total (printed body)))) (sym (if_here (stmt_step true) cond body [])) (test_most e (printed body))

pub under_most : (c : Extent) (m n : Numbers) → AtMost m n → AtMost (under_test c m) (under_test c n)
under_most c m n p =
    let t = p.tokens in let r = p.run in let d = p.depth in let i = p.items in
    record { tokens = omega (arith, t); run = omega (arith, r); depth = omega (arith, d); items = omega (arith, i) }

-- comparisons that are joined
tests_joined : (cs : List Compare) → joined_tokens true (map (cond_extent true) (map as_condition cs)) ≡ all_tokens true cs
tests_joined [] = refl
tests_joined (d ∷ cs) = ap (λ n. (compare_extent true d).tokens + 1 + n) (tests_joined cs)

tests_deep : (cs : List Compare) → joined_deep true (map (cond_extent true) (map as_condition cs)) ≡ all_deep true cs
tests_deep [] = refl
tests_deep (d ∷ cs) = ap (max (compare_extent true d).depth) (tests_deep cs)

pub all_of_within : (d : Compare) (cs : List Compare) → Under 1 (all_tokens true (d ∷ cs)) (all_deep true (d ∷ cs)) (cond_extent true (all_of d cs)).extent
all_of_within d [] = record { few = omega arith; shallow = omega arith }
all_of_within d (e ∷ es) =
    let cs : List Compare = d ∷ e ∷ es in
    let u = joined_within true (map (cond_extent true) (map as_condition cs)) (omega arith) in
    let a = u.few in let b = u.shallow in let t = tests_joined cs in let f = tests_deep cs in
    subst (λ (x : CondExtent). Under 1 (all_tokens true cs) (all_deep true cs) x.extent) (sym (all_here (cond_step true) (map as_condition cs))) (record { few = omega (arith, a, t); shallow = omega (arith, b, f) })

-- under tests of which there may be none
pub any_most : (cs : List Compare) (body : List Stmt) (c : Extent) → all_tokens true cs ≤ c.tokens → all_deep true cs ≤ c.depth → AtMost (total (printed (if_any cs body))) (under_test c (total (printed body)))
any_most [] body c h k = record { tokens = omega arith; run = omega arith; depth = omega arith; items = omega arith }
any_most (d ∷ cs) body c h k =
    let u = all_of_within d cs in
    let f = u.few in let g = u.shallow in
    let p = if_most (all_of d cs) body in
    let t = p.tokens in let r = p.run in let e = p.depth in let i = p.items in
    record { tokens = omega (arith, t, f, h); run = omega (arith, r, f, h); depth = omega (arith, e, g, k); items = omega (arith, i) }
