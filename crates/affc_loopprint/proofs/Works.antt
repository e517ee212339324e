-- Where a program keeps the limits on statements, arrays and lines, so do its loops.
use Rattle.std.proofs.Common.{◌≡◌, inl, inr, ℕ, suc, ◌+◌, ◌≤◌, Bool, true, false, ◌&&◌, nat_le, nat_lt, List, [], ◌∷◌, length, map, Some, refl, sym, ap, subst, ◌∙◌, arith, if◌then◌else◌}
use Rattle.std.specs.Prelude.{slice_get}
use Rattle.std.specs.List.{list_all}
use Rattle.std.proofs.lemmas.Bool.{and_parts, and_from, or_parts, or_from, false≢true, le-leb}
use Rattle.affc_ast.specs.declared.tree.Compare.{Compare}
use Rattle.affc_ast.specs.declared.tree.Cond.{Cond}
use Rattle.affc_ast.specs.declared.tree.Ix.{Ix}
use Rattle.affc_ast.specs.declared.tree.Program.{Program}
use Rattle.affc_ast.specs.declared.tree.Rel.TheVariants.{LessEqual}
use Rattle.affc_ast.specs.declared.tree.Stmt.{Stmt}
use Rattle.affc_ast.specs.declared.tree.Stmt.TheVariants.{For, If}
use Rattle.affc_ast.specs.Denials.{denied}
use Rattle.affc_ast.specs.Fits.{all_true}
use Rattle.affc_ast.specs.Trace.{Assignment, assignments}
use Rattle.affc_ast.proofs.Steps.{all_here}
use Rattle.affc_trace.specs.Law.{IsIn}
use Rattle.affc_trace.specs.Target.{numbers_in}
use Rattle.affc_domain.specs.Rounds.{Round, Loop, Test, rounds}
use Rattle.affc_loops.specs.Between.{loops_between, body_between}
use Rattle.affc_loops.specs.Loops.{Scheduled, loop_names, locals_of, box_tests, time_tests, as_condition, all_of, if_any, loop_tests, guarded, moved_assign, block_of, time_name}
use Rattle.affc_loops.specs.Trees.{moved_cond}
use Rattle.affc_grammar.specs.Limits.{wide_limits}
use Rattle.affc_cprint.proofs.Arms.{for_here, if_here, block_here}
use Rattle.affc_cprint.proofs.ReadBackValues.{Each}
use Rattle.affc_wellnamed.specs.declared.work.Work.{Work}
use Rattle.affc_wellnamed.specs.Known.{number_count}
use Rattle.affc_wellnamed.specs.Shape.{plus}
use Rattle.affc_wellnamed.specs.Work.{loads, no_work, one_work, both, looped, stmt_step, work, stmts_behind, is_bounded, param_fits, has_few, small_step, cond_fits, fits_step, stmt_fits, program_fits}
use Rattle.affc_wellnamed.proofs.ShapeParts.{larger_is}
use Rattle.affc_loopprint.proofs.Conditions.{moved_same, denied_same}
use Rattle.affc_loopprint.proofs.Entries.{Walk, two_at, entries}
use Rattle.affc_loopprint.proofs.Fitting.{loops_program}
use Rattle.affc_loopprint.proofs.Moved.{moved_value_loads}

-- ---- Few accesses, by the assignments

abbrev pub is_crowded : Assignment → Bool
is_crowded a = (one_work a.op (loads a.value)).crowded

abbrev IsThere : Unit {0} → Stmt → Type 0
IsThere x s = (work s).crowded ≡ false

all_behind_there : (a : Work) (body : List Stmt) → (stmts_behind a body).crowded ≡ false → (a.crowded ≡ false) × Each (IsThere tt) body
all_behind_there a [] h = (h, tt)
all_behind_there a (s ∷ body) h =
    let p = all_behind_there (both a (work s)) body h in
    let q = or_parts a.crowded (work s).crowded p.0 in
    (q.0, (q.1, p.1))

walk : Walk IsThere (λ x rs a. is_crowded a ≡ false) (λ x w. x)
walk = record {
  loop = λ x iter low rel high body h. ((all_behind_there no_work body (ap (λ (w : Work). w.crowded) (sym (for_here stmt_step iter low rel high body)) ∙ h)).1, λ rs a k. k);
  test = λ x cond body other h.
      let p = or_parts (stmts_behind no_work body).crowded (stmts_behind no_work other).crowded (ap (λ (w : Work). w.crowded) (sym (if_here stmt_step cond body other)) ∙ h) in
      ((all_behind_there no_work body p.0).1, λ rs a k. k, (all_behind_there no_work other p.1).1, λ rs a k. k);
  assign = λ x op array subs value h. h;
  block = λ x ls body h. (all_behind_there no_work body (ap (λ (w : Work). w.crowded) (sym (block_here stmt_step ls body)) ∙ h)).1;
}

uncrowded : (b : Bool) → (if b then false else true) ≡ true → b ≡ false
uncrowded true h = absurd (false≢true h)
uncrowded false h = refl

-- what stands before the body's work
abbrev before_body : Program → Bool
before_body p = nat_le (number_count p.params) 4 && nat_le (length p.context) 16

pub all_free : (program : Program) → program_fits program ≡ true → (n : ℕ) (rs : List Round) (a : Assignment) → slice_get (rounds program) n ≡ Some rs → slice_get (assignments program) n ≡ Some a → is_crowded a ≡ false
all_free program h n rs a e f =
    let w = stmts_behind no_work program.body in
    let p = and_parts (before_body program) _ h in
    let q = and_parts (list_all param_fits program.params && list_all has_few program.temps) (is_bounded w && all_true (map stmt_fits program.body)) p.1 in
    let t = and_parts (is_bounded w) (all_true (map stmt_fits program.body)) q.1 in
    let r = and_parts (nat_le w.statements 64 && nat_le w.loops wide_limits.loops) (if w.crowded then false else true) t.0 in
    two_at (λ qs b. is_crowded b ≡ false) (rounds program) (assignments program) n rs a
    (entries IsThere (λ x qs b. is_crowded b ≡ false) (λ x u. x) walk tt program.body (all_behind_there no_work program.body (uncrowded w.crowded r.1)).1) e f

-- ---- Small numbers of remainders, by what stands round each assignment

abbrev pub around_fits : List Round → Bool
around_fits [] = true
around_fits (Loop iter low rel high ∷ rs) = around_fits rs
around_fits (Test cond ∷ rs) = cond_fits cond && around_fits rs

abbrev all_fit : List Stmt → Bool
all_fit body = all_true (map stmt_fits body)

abbrev Fits : Unit {0} → Stmt → Type 0
Fits x s = stmt_fits s ≡ true

each_there : (body : List Stmt) → all_fit body ≡ true → Each (Fits tt) body
each_there [] h = tt
each_there (s ∷ body) h = let p = and_parts (stmt_fits s) (all_fit body) h in (p.0, each_there body p.1)

fits_walk : Walk Fits (λ x rs a. around_fits rs ≡ true) (λ x w. x)
fits_walk = record {
  loop = λ x iter low rel high body h. (each_there body (sym (for_here fits_step iter low rel high body) ∙ h), λ rs a k. k);
  test = λ x cond body other h.
      let p = and_parts (cond_fits cond) (all_fit body && all_fit other) (sym (if_here fits_step cond body other) ∙ h) in
      let q = and_parts (all_fit body) (all_fit other) p.1 in (
        each_there body q.0,
        λ rs a k. and_from (cond_fits cond) _ p.0 k,
        each_there other q.1,
        λ rs a k. and_from (cond_fits (denied cond)) _ (denied_same small_step (λ rel left right. refl) (λ bs. refl) (λ value by so. refl) cond ∙ p.0) k,
      );
  assign = λ x op array subs value h. refl;
  block = λ x ls body h. each_there body (sym (block_here fits_step ls body) ∙ h);
}

pub all_around_fit : (program : Program) → program_fits program ≡ true → (n : ℕ) (rs : List Round) (a : Assignment) → slice_get (rounds program) n ≡ Some rs → slice_get (assignments program) n ≡ Some a → around_fits rs ≡ true
all_around_fit program h n rs a e f =
    let w = stmts_behind no_work program.body in
    let p = and_parts (before_body program) _ h in
    let q = and_parts (list_all param_fits program.params && list_all has_few program.temps) (is_bounded w && all_fit program.body) p.1 in
    let t = and_parts (is_bounded w) (all_fit program.body) q.1 in
    two_at (λ qs b. around_fits qs ≡ true) (rounds program) (assignments program) n rs a (entries Fits (λ x qs b. around_fits qs ≡ true) (λ x u. x) fits_walk tt program.body (each_there program.body t.1)) e f

-- ---- The loops

-- at most so much work
record IsLight (statements loops : ℕ) (w : Work) : Type 0 where
  few : w.statements ≤ statements
  low : w.loops ≤ loops
  free : w.crowded ≡ false

none_light : IsLight 0 0 no_work
none_light = record { few = omega arith; low = omega arith; free = refl }

both_light : (s t l : ℕ) (a b : Work) → IsLight s l a → IsLight t l b → IsLight (s + t) l (both a b)
both_light s t l a b h k =
    let x = h.few in let y = k.few in let u = h.low in let v = k.low in
    let m = larger_is a.loops b.loops in
    record { few = omega (arith, x, y); low = omega (arith, u, v, m); free = or_from a.crowded b.crowded h.free k.free }

one_light : (s l : ℕ) (w : Work) → IsLight s l w → IsLight s l (both no_work w)
one_light s l w h =
    let r = both_light 0 s l no_work w (record { few = omega arith; low = omega arith; free = refl }) h in
    let f = r.few in record { few = omega (arith, f); low = r.low; free = r.free }

if_light : (s l : ℕ) (cond : Cond) (body : List Stmt) → IsLight s l (stmts_behind no_work body) → IsLight s l (stmts_behind no_work (If cond body [] ∷ []))
if_light s l cond body h =
    let b = both_light s 0 l (stmts_behind no_work body) no_work h (record { few = omega arith; low = omega arith; free = refl }) in
    let f = b.few in
    one_light s l (work (If cond body [])) (subst (IsLight s l) (sym (if_here stmt_step cond body [])) (record { few = omega (arith, f); low = b.low; free = b.free }))

any_light : (s l : ℕ) (cs : List Compare) (body : List Stmt) → IsLight s l (stmts_behind no_work body) → IsLight s l (stmts_behind no_work (if_any cs body))
any_light s l [] body h = h
any_light s l (c ∷ cs) body h = if_light s l (all_of c cs) body h

guarded_light : (s l first more from : ℕ) (rs : List Round) (body : List Stmt) → IsLight s l (stmts_behind no_work body) → IsLight s l (stmts_behind no_work (guarded first more from rs body))
guarded_light s l first more from [] body h = h
guarded_light s l first more from (Loop iter low rel high ∷ rs) body h =
    any_light s l (loop_tests first more from low rel high) (guarded first more (suc from) rs body) (guarded_light s l first more (suc from) rs body h)
guarded_light s l first more from (Test cond ∷ rs) body h = if_light s l (moved_cond first more cond) (guarded first more from rs body) (guarded_light s l first more from rs body h)

assign_light : (first more : ℕ) (a : Assignment) → is_crowded a ≡ false → IsLight 1 0 (work (moved_assign first more a))
assign_light first more a h = record { few = omega arith; low = omega arith; free = ap (λ n. (one_work a.op n).crowded) (moved_value_loads first more a.value) ∙ h }

block_light : (first more : ℕ) (e : Scheduled) → is_crowded e.assignment ≡ false → IsLight 1 0 (work (block_of first more e))
block_light first more e h =
    let from = first + more in
    let ls = locals_of first (loop_names e.around) e.times.inverse in
    let alone = moved_assign first more e.assignment ∷ [] in
    let inner = if_any (time_tests first from first e.times.forms) (guarded first more from e.around alone) in
    let body = if_any (box_tests from e.ranges) inner in
    subst (IsLight 1 0) (sym (block_here stmt_step ls body))
    (any_light 1 0 (box_tests from e.ranges) inner
    (any_light 1 0 (time_tests first from first e.times.forms) (guarded first more from e.around alone)
    (guarded_light 1 0 first more from e.around alone (one_light 1 0 (work (moved_assign first more e.assignment)) (assign_light first more e.assignment h)))))

blocks_light : (first more s : ℕ) (a : Work) (es : List Scheduled) → IsLight s 0 a → ((e : Scheduled) → IsIn e es → is_crowded e.assignment ≡ false) → IsLight (s + length es) 0 (stmts_behind a (map (block_of first more) es))
blocks_light first more s a [] h k = record { few = (let f = h.few in omega (arith, f)); low = h.low; free = h.free }
blocks_light first more s a (e ∷ es) h k =
    let r = blocks_light first more (s + 1) (both a (work (block_of first more e))) es (both_light s 1 0 a (work (block_of first more e)) h (block_light first more e (k e (inl refl)))) (λ f i. k f (inr i)) in
    record { few = (let f = r.few in omega (arith, f)); low = r.low; free = r.free }

looped_low : (b : Bool) (n l : ℕ) → n ≤ l → (if b then plus n 1 else 0) ≤ suc l
looped_low true n l h = omega (arith, h)
looped_low false n l h = omega arith

looped_light : (s l : ℕ) (w : Work) → IsLight s l w → IsLight s (suc l) (looped w)
looped_light s l w h = record { few = h.few; low = looped_low (nat_lt 0 w.statements) w.loops l h.low; free = h.free }

loops_light : (s : ℕ) (ends : List (Ix × Ix)) (component : ℕ) (body : List Stmt) → IsLight s 0 (stmts_behind no_work body) → IsLight s (length ends) (stmts_behind no_work (loops_between ends component body))
loops_light s [] component body h = h
loops_light s (e ∷ es) component body h =
    let inner = loops_between es (suc component) body in
    one_light s (suc (length es)) (work (For (time_name component) e.0 LessEqual e.1 inner))
    (subst (IsLight s (suc (length es))) (sym (for_here stmt_step (time_name component) e.0 LessEqual e.1 inner))
    (looped_light s (length es) (stmts_behind no_work inner) (loops_light s es (suc component) body h)))

body_light : (first : ℕ) (ends : List (Ix × Ix)) (es : List Scheduled) → ((e : Scheduled) → IsIn e es → is_crowded e.assignment ≡ false) → IsLight (length es) (length ends) (stmts_behind no_work (body_between first ends es))
body_light first ends [] k = record { few = omega arith; low = omega arith; free = refl }
body_light first ends (e ∷ es) k =
    let r = blocks_light first (length ends) 0 no_work (e ∷ es) none_light k in
    let f = r.few in
    loops_light (length (e ∷ es)) ends 0 (map (block_of first (length ends)) (e ∷ es)) (record { few = omega (arith, f); low = r.low; free = r.free })

light_bounded : (s l : ℕ) (w : Work) → IsLight s l w → s ≤ 64 → l ≤ 12 → is_bounded w ≡ true
light_bounded s l w h a b =
    let f = h.few in let g = h.low in
    and_from _ _ (and_from _ _ (le-leb w.statements 64 (omega (arith, f, a))) (le-leb w.loops wide_limits.loops (omega (arith, g, b)))) (ap (λ c. if c then false else true) h.free)

-- ---- Remainders

if_fits : (cond : Cond) (body : List Stmt) → cond_fits cond ≡ true → all_fit body ≡ true → all_fit (If cond body [] ∷ []) ≡ true
if_fits cond body h k = and_from _ true (if_here fits_step cond body [] ∙ and_from (cond_fits cond) _ h (and_from (all_fit body) true k refl)) refl

each_fits : (cs : List Compare) → all_true (map cond_fits (map as_condition cs)) ≡ true
each_fits [] = refl
each_fits (d ∷ cs) = each_fits cs

all_of_fits : (d : Compare) (cs : List Compare) → cond_fits (all_of d cs) ≡ true
all_of_fits d [] = refl
all_of_fits d (e ∷ es) = all_here small_step (map as_condition (d ∷ e ∷ es)) ∙ each_fits (d ∷ e ∷ es)

any_fits : (cs : List Compare) (body : List Stmt) → all_fit body ≡ true → all_fit (if_any cs body) ≡ true
any_fits [] body h = h
any_fits (c ∷ cs) body h = if_fits (all_of c cs) body (all_of_fits c cs) h

guarded_fits : (first more from : ℕ) (rs : List Round) (body : List Stmt) → around_fits rs ≡ true → all_fit body ≡ true → all_fit (guarded first more from rs body) ≡ true
guarded_fits first more from [] body h k = k
guarded_fits first more from (Loop iter low rel high ∷ rs) body h k = any_fits (loop_tests first more from low rel high) (guarded first more (suc from) rs body) (guarded_fits first more (suc from) rs body h k)
guarded_fits first more from (Test cond ∷ rs) body h k =
    let p = and_parts (cond_fits cond) (around_fits rs) h in
    if_fits (moved_cond first more cond) (guarded first more from rs body) (moved_same small_step first more (λ rel left right. refl) (λ value by so. refl) cond ∙ p.0) (guarded_fits first more from rs body p.1 k)

block_fits : (first more : ℕ) (e : Scheduled) → around_fits e.around ≡ true → stmt_fits (block_of first more e) ≡ true
block_fits first more e h =
    let from = first + more in
    let ls = locals_of first (loop_names e.around) e.times.inverse in
    let inner = if_any (time_tests first from first e.times.forms) (guarded first more from e.around (moved_assign first more e.assignment ∷ [])) in
    block_here fits_step ls (if_any (box_tests from e.ranges) inner)
    ∙ any_fits (box_tests from e.ranges) inner (any_fits (time_tests first from first e.times.forms) (guarded first more from e.around (moved_assign first more e.assignment ∷ [])) (guarded_fits first more from e.around (moved_assign first more e.assignment ∷ []) h refl))

blocks_fit : (first more : ℕ) (es : List Scheduled) → ((e : Scheduled) → IsIn e es → around_fits e.around ≡ true) → all_fit (map (block_of first more) es) ≡ true
blocks_fit first more [] h = refl
blocks_fit first more (e ∷ es) h = and_from (stmt_fits (block_of first more e)) _ (block_fits first more e (h e (inl refl))) (blocks_fit first more es (λ f i. h f (inr i)))

between_fits : (ends : List (Ix × Ix)) (component : ℕ) (body : List Stmt) → all_fit body ≡ true → all_fit (loops_between ends component body) ≡ true
between_fits [] component body h = h
between_fits (e ∷ es) component body h = and_from _ true (for_here fits_step (time_name component) e.0 LessEqual e.1 (loops_between es (suc component) body) ∙ between_fits es (suc component) body h) refl

body_fits : (first : ℕ) (ends : List (Ix × Ix)) (es : List Scheduled) → ((e : Scheduled) → IsIn e es → around_fits e.around ≡ true) → all_fit (body_between first ends es) ≡ true
body_fits first ends [] h = refl
body_fits first ends (e ∷ es) h = between_fits ends 0 (map (block_of first (length ends)) (e ∷ es)) (blocks_fit first (length ends) (e ∷ es) h)

pub loops_fit : (program : Program) (ends : List (Ix × Ix)) (es : List Scheduled) → program_fits program ≡ true → length es ≤ 64 → length ends ≤ 12 → ((e : Scheduled) → IsIn e es → is_crowded e.assignment ≡ false)
    → ((e : Scheduled) → IsIn e es → around_fits e.around ≡ true) → program_fits (loops_program program ends es) ≡ true
loops_fit program ends es h a b k f =
    let p = and_parts (before_body program) _ h in
    let q = and_parts (list_all param_fits program.params && list_all has_few program.temps) (is_bounded (stmts_behind no_work program.body) && all_true (map stmt_fits program.body)) p.1 in
    and_from (before_body program) _ p.0
    (and_from (list_all param_fits program.params && list_all has_few program.temps) _ q.0
    (and_from (is_bounded (stmts_behind no_work (body_between (numbers_in program.params) ends es))) _ (light_bounded (length es) (length ends) _ (body_light (numbers_in program.params) ends es k) a b)
    (body_fits (numbers_in program.params) ends es f)))
