-- What is known of the loops that are printed, and of the blocks in them.
use Rattle.std.proofs.Common.{◌≡◌, inl, inr, ℕ, suc, ◌+◌, ◌^◌, ◌<◌, ◌≤◌, ℤ, Bool, true, false, not, ◌&&◌, ◌||◌, List, [], ◌∷◌, ◌++◌, length, map, refl, sym, ap, ◌∙◌, arith}
use Rattle.std.specs.List.{All, list_any}
use Rattle.std.proofs.lemmas.Bool.{and_parts, and_from, or_parts, or_from, lt-ltb, false≢true}
use Rattle.std.proofs.lemmas.List.Folds.{list_any-append}
use Rattle.affc_lex.specs.Bytes.{same}
use Rattle.affc_lex.specs.Pieces.{is_word}
use Rattle.affc_rows.specs.Forms.{Affine, HaveColumns}
use Rattle.affc_ast.specs.declared.tree.Compare.{Compare}
use Rattle.affc_ast.specs.declared.tree.Cond.{Cond}
use Rattle.affc_ast.specs.declared.tree.Ix.{Ix}
use Rattle.affc_ast.specs.declared.tree.Local.{Local}
use Rattle.affc_ast.specs.declared.tree.Rel.{Rel}
use Rattle.affc_ast.specs.declared.tree.Rel.TheVariants.{Less, LessEqual, Greater, GreaterEqual, Equal, NotEqual}
use Rattle.affc_ast.specs.declared.tree.Stmt.{Stmt}
use Rattle.affc_ast.specs.declared.tree.Stmt.TheVariants.{If}
use Rattle.affc_ast.specs.Joined.{is_ordered}
use Rattle.affc_ast.specs.Names.{is_reserved}
use Rattle.affc_ast.specs.Trace.{Assignment}
use Rattle.affc_trace.specs.Law.{IsIn}
use Rattle.affc_domain.specs.Rounds.{Round, Loop, Test, loops_in}
use Rattle.affc_grammar.specs.Names.{is_time_name}
use Rattle.affc_loops.specs.Between.{loops_between, body_between}
use Rattle.affc_loops.specs.Limits.{IsSlight}
use Rattle.affc_loops.specs.Loops.{Scheduled, loop_names, locals_of, box_tests, time_tests, all_of, if_any, loop_tests, guarded, moved_assign, block_of, time_name}
use Rattle.affc_loops.specs.Trees.{name_at, form_tree, moved_cond}
use Rattle.affc_loops.proofs.Guards.{names_count}
use Rattle.affc_loops.proofs.Sizes.{Within}
use Rattle.affc_cprint.proofs.Arms.{for_here, if_here, block_here}
use Rattle.affc_cprint.proofs.Spelled.{off}
use Rattle.affc_cprint.specs.Forms.{is_none}
use Rattle.affc_wellnamed.specs.Known.{Known, and_iterator, and_locals, is_new, is_refused, is_bound, ix_known, compares_known, cond_known, for_known, locals_known, block_known, stmt_step, stmt_known, stmts_known}
use Rattle.affc_loopprint.specs.Spare.{HaveFreeNames}
use Rattle.affc_loopprint.proofs.EndCases.{EndsFrom}
use Rattle.affc_loopprint.proofs.KnownAround.{around_known}
use Rattle.affc_loopprint.proofs.KnownEnds.{KnownAt}
use Rattle.affc_loopprint.proofs.Conditions.{moved_cond_known, all_of_known}
use Rattle.affc_loopprint.proofs.Moved.{moved_known, all_moved_known, moved_takes, moved_value_known}
use Rattle.affc_loopprint.proofs.Sums.{sums_known, number_has, form_has}
use Rattle.affc_loopprint.proofs.TimeNames.{time_is_word, time_is_time, times_differ, free_is_other}

-- ---- Tests

if_there : (known : Known) (cond : Cond) (body : List Stmt) → cond_known known cond ≡ true → stmts_known known body ≡ true → stmts_known known (If cond body [] ∷ []) ≡ true
if_there known cond body h k = and_from _ true (ap (λ (f : Known → Bool). f known) (if_here stmt_step cond body []) ∙ and_from (cond_known known cond) _ h (and_from _ true k refl)) refl

bound_ordered : (rel : Rel) → is_bound rel ≡ true → is_ordered rel ≡ true
bound_ordered Less h = refl
bound_ordered LessEqual h = refl
bound_ordered Greater h = absurd (false≢true h)
bound_ordered GreaterEqual h = absurd (false≢true h)
bound_ordered Equal h = absurd (false≢true h)
bound_ordered NotEqual h = absurd (false≢true h)

any_there : (known : Known) (cs : List Compare) (body : List Stmt) → compares_known known cs ≡ true → stmts_known known body ≡ true → stmts_known known (if_any cs body) ≡ true
any_there known [] body h k = k
any_there known (c ∷ cs) body h k = if_there known (all_of c cs) body (all_of_known known c cs h) k

box_there : (known : Known) (from : ℕ) (rs : List (ℤ × ℤ)) → All (Within (2 ^ 31)) rs → from + length rs ≤ known.numbers → compares_known known (box_tests from rs) ≡ true
box_there known from [] w l = refl
box_there known from (r ∷ rs) w l =
    let e : Within (2 ^ 31) r = w 0 r (omega arith) in
    let e0 = e.0 in let e1 = e.1 in
    let name : ix_known known (name_at from) ≡ true = lt-ltb from known.numbers (omega (arith, l)) in
    let low = number_has (λ z. ix_known known z ≡ true) known.numbers (sums_known known) r.0 (omega (arith, e0)) in
    let high = number_has (λ z. ix_known known z ≡ true) known.numbers (sums_known known) r.1 (omega (arith, e1)) in
    and_from _ _ (and_from _ _ low name) (and_from _ _ (and_from _ _ name high) (box_there known (suc from) rs (λ i y m. w (suc i) y (omega (arith, m))) (omega (arith, l))))

times_there : (known : Known) (first from loops component : ℕ) (fs : List Affine) → All IsSlight fs → HaveColumns (first + loops) fs → first ≤ known.numbers → from + loops ≤ known.numbers → component + length fs ≤ known.numbers
    → compares_known known (time_tests first from component fs) ≡ true
times_there known first from loops component [] s h l m n = refl
times_there known first from loops component (f ∷ fs) s h l m n =
    let wide : length f.coefs ≡ first + loops = h 0 f (omega arith) in
    let name : ix_known known (name_at component) ≡ true = lt-ltb component known.numbers (omega (arith, n)) in
    let form = form_has (λ z. ix_known known z ≡ true) known.numbers (sums_known known) first from f (s 0 f (omega arith)) l (omega (arith, wide, m)) in
    and_from _ _ (and_from _ _ name form) (times_there known first from loops (suc component) fs (λ i y k. s (suc i) y (omega (arith, k))) (λ i y k. h (suc i) y (omega (arith, k))) l m (omega (arith, n)))

-- ---- The assignment under what stands round it

module _ (first more : ℕ) (new : Known) (calls : new.prelude ≡ true) where
  guarded_there : (rs : List Round) (a : Assignment) (old : Known) (from : ℕ) → old.arrays ≡ new.arrays → old.numbers + loops_in rs + more ≤ new.numbers → from + loops_in rs ≤ new.numbers → around_known old rs a ≡ true
      → stmts_known new (guarded first more from rs (moved_assign first more a ∷ [])) ≡ true
  guarded_there [] a old from e l m h =
      let room : old.numbers + more ≤ new.numbers = omega (arith, l) in
      let p = and_parts _ _ h in
      let q = and_parts _ _ p.1 in
      and_from _ true
      (and_from _ _ (moved_takes old new (λ z. calls) first more room e true a.array.0 a.subs p.0)
      (and_from _ _ (all_moved_known old new (λ z. calls) first more room a.subs q.0) (moved_value_known old new (λ z. calls) first more room e a.value q.1))) refl
  guarded_there (Loop iter low rel high ∷ rs) a old from e l m h =
      let room : old.numbers + more ≤ new.numbers = omega (arith, l) in
      let p = and_parts (for_known old iter low rel high) _ h in
      let q = and_parts (is_new old true iter) _ p.0 in
      let r = and_parts (is_bound rel) (ix_known old low && ix_known old high) q.1 in
      let s = and_parts (ix_known old low) (ix_known old high) r.1 in
      let name : ix_known new (name_at from) ≡ true = lt-ltb from new.numbers (omega (arith, m)) in
      any_there new (loop_tests first more from low rel high) (guarded first more (suc from) rs (moved_assign first more a ∷ []))
      (and_from _ _ (and_from _ _ (moved_known old new (λ z. calls) first more room low s.0) name)
      (and_from _ true (and_from (is_ordered rel) _ (bound_ordered rel r.0) (and_from _ _ name (moved_known old new (λ z. calls) first more room high s.1))) refl))
      (guarded_there rs a (and_iterator old iter) (suc from) e (omega (arith, l)) (omega (arith, m)) p.1)
  guarded_there (Test cond ∷ rs) a old from e l m h =
      let room : old.numbers + more ≤ new.numbers = omega (arith, l) in
      let p = and_parts (cond_known old cond) _ h in
      if_there new (moved_cond first more cond) (guarded first more from rs (moved_assign first more a ∷ [])) (moved_cond_known old new (λ z. calls) first more room cond p.0) (guarded_there rs a old from e l m p.1)

-- ---- Locals

any_last : (v : List ℕ) (ls : List Local) (l : Local) → list_any (λ (m : Local). same m.name v) ls ≡ false → same l.name v ≡ false → list_any (λ (m : Local). same m.name v) (ls ++ l ∷ []) ≡ false
any_last v ls l h k = list_any-append (λ (m : Local). same m.name v) ls (l ∷ []) ∙ or_from _ _ h (or_from _ _ k refl)

-- a name that isn't kept and isn't taken outside isn't taken inside
abbrev pub StaysFree : Known → Known → Type 0
StaysFree outer inner = (v : List ℕ) → is_reserved v ≡ false → outer.is_taken v ≡ false → inner.is_taken v ≡ false

local_new : (known : Known) (w : List ℕ) → is_word w ≡ true → is_reserved w ≡ false → known.is_taken w ≡ false → is_new known false w ≡ true
local_new known w a b c = and_from _ _ (and_from _ _ a (ap (λ r. not (r && true)) b)) (ap not c)

module _ (first wide : ℕ) (inner : Known) (room : first ≤ inner.numbers) (enough : wide ≤ inner.numbers) where
  locals_there : (rs : List Round) (a : Assignment) (gs : List Affine) (old : Known) (before : List Local) → around_known old rs a ≡ true → HaveFreeNames rs → StaysFree old (and_locals inner before)
      → All IsSlight gs → HaveColumns wide gs → locals_known inner before (locals_of first (loop_names rs) gs) ≡ true
  locals_there [] a gs old before h free stays s w = refl
  locals_there (Loop iter low rel high ∷ rs) a [] old before h free stays s w = refl
  locals_there (Loop iter low rel high ∷ rs) a (g ∷ gs) old before h free stays s w =
      let p = and_parts (for_known old iter low rel high) _ h in
      let q = and_parts (is_new old true iter) _ p.0 in
      let r = and_parts (is_word iter && not (is_refused old.prelude true iter)) (not (old.is_taken iter)) q.0 in
      let t = and_parts (is_word iter) _ r.0 in
      let open_name : is_reserved iter ≡ false = free 0 iter (omega arith) in
      let columns : length g.coefs ≡ wide = w 0 g (omega arith) in
      let known = and_locals inner before in
      let l : Local = record { name = iter; value = form_tree first first g } in
      let more : first ≤ known.numbers = omega (arith, room) in
      and_from _ _
      (and_from _ _ (local_new known iter t.0 open_name (stays iter open_name (off (old.is_taken iter) r.1)))
      (form_has (λ z. ix_known known z ≡ true) known.numbers (sums_known known) first first g (s 0 g (omega arith)) more (omega (arith, columns, room, enough))))
      (locals_there rs a gs (and_iterator old iter) (before ++ l ∷ []) p.1 (λ i x m. free (suc i) x (omega (arith, m)))
      (λ v f k.
      let n = or_parts (same iter v) (old.is_taken v) k in
      let m = or_parts (list_any (λ (x : Local). same x.name v) before) (inner.is_taken v) (stays v f n.1) in
      or_from _ _ (any_last v before l m.0 n.0) m.1)
      (λ i y k. s (suc i) y (omega (arith, k))) (λ i y k. w (suc i) y (omega (arith, k))))
  locals_there (Test cond ∷ rs) a gs old before h free stays s w = locals_there rs a gs old before (and_parts (cond_known old cond) _ h).1 free stays s w

locals_count : (first : ℕ) (ws : List (List ℕ)) (gs : List Affine) → length gs ≡ length ws → length (locals_of first ws gs) ≡ length ws
locals_count first [] gs e = refl
locals_count first (w ∷ ws) [] e = absurd (omega (arith, e))
locals_count first (w ∷ ws) (g ∷ gs) e = ap suc (locals_count first ws gs (omega (arith, e)))

-- ---- Blocks

-- what is known in the loops, over what is known outside
pub record Inside (outer inner : Known) (more : ℕ) : Type 0 where
  pub calls : inner.prelude ≡ true
  pub numbers : inner.numbers ≡ outer.numbers + more
  pub arrays : outer.arrays ≡ inner.arrays
  pub stays : StaysFree outer inner

-- the sizes of a statement's lists
pub record Sized (first n : ℕ) (e : Scheduled) : Type 0 where
  pub box : length e.ranges ≡ length (loop_names e.around)
  pub near : All (Within (2 ^ 31)) e.ranges
  pub components : length e.times.forms ≡ n
  pub iterators : length e.times.inverse ≡ length (loop_names e.around)
  pub columns : HaveColumns (first + length (loop_names e.around)) e.times.forms
  pub inverse_columns : HaveColumns (first + n) e.times.inverse
  pub slight : All IsSlight e.times.forms
  pub inverse_slight : All IsSlight e.times.inverse

pub block_there : (first n : ℕ) (outer inner : Known) (e : Scheduled) → outer.numbers ≡ first → Inside outer inner n → Sized first n e → around_known outer e.around e.assignment ≡ true → HaveFreeNames e.around
    → stmt_known (block_of first n e) inner ≡ true
block_there first n outer inner e count i s h free =
    let from = first + n in
    let ls = locals_of first (loop_names e.around) e.times.inverse in
    let known = and_locals inner ls in
    let body = if_any (box_tests from e.ranges) (if_any (time_tests first from first e.times.forms) (guarded first n from e.around (moved_assign first n e.assignment ∷ []))) in
    let long = locals_count first (loop_names e.around) e.times.inverse s.iterators in
    let loops = names_count e.around in
    let numbers = i.numbers in
    let components = s.components in
    let box = s.box in
    ap (λ (f : Known → Bool). f inner) (block_here stmt_step ls body)
    ∙ and_from (block_known inner ls) _
    (and_from _ _ (ap (λ b. b || is_none ls) i.calls) (locals_there first (first + n) inner (omega (arith, numbers, count)) (omega (arith, numbers, count)) e.around e.assignment e.times.inverse outer [] h free i.stays s.inverse_slight s.inverse_columns))
    (any_there known (box_tests from e.ranges) _ (box_there known from e.ranges s.near (omega (arith, numbers, count, long, box)))
    (any_there known (time_tests first from first e.times.forms) _
    (times_there known first from (length (loop_names e.around)) first e.times.forms s.slight s.columns (omega (arith, numbers, count)) (omega (arith, numbers, count, long)) (omega (arith, numbers, count, components)))
    (guarded_there first n known i.calls e.around e.assignment outer from i.arrays (omega (arith, numbers, count, long, loops)) (omega (arith, numbers, count, long, loops)) h)))

-- ---- Loops

not_refused : (r p t : Bool) → p ≡ true → t ≡ true → not (r && not (true && p && t)) ≡ true
not_refused true true true e f = refl
not_refused false true true e f = refl
not_refused r false t e f = absurd (cc)
not_refused r true false e f = absurd (cc)

abbrev TimesFree : Known → ℕ → Type 0
TimesFree known component = (k : ℕ) → component ≤ k → k < 64 → known.is_taken (time_name k) ≡ false

-- each end names what stands before its column alone
loops_there : (known : Known) (ends : List (Ix × Ix)) (component column : ℕ) (body : List Stmt) → known.prelude ≡ true → component + length ends ≤ 64 → TimesFree known component
    → column ≤ known.numbers → EndsFrom KnownAt column ends
    → ((inner : Known) → Inside known inner (length ends) → stmts_known inner body ≡ true) → stmts_known known (loops_between ends component body) ≡ true
loops_there known [] component column body calls few free m w inside = inside known (record { calls = calls; numbers = omega arith; arrays = refl; stays = λ v f h. h })
loops_there known (e ∷ es) component column body calls few free m w inside =
    let name = time_name component in
    let low = w.0 known calls m in
    let high = w.1 known calls m in
    let small : component < 2 ^ 64 = omega (arith, few) in
    let new : is_new known true name ≡ true =
    and_from _ _ (and_from _ _ (time_is_word component small) (not_refused (is_reserved name) known.prelude (is_time_name name) calls (time_is_time component small))) (ap not (free component (omega arith) (omega (arith, few)))) in
    let next = and_iterator known name in
    and_from _ true
    (ap (λ (f : Known → Bool). f known) (for_here stmt_step name e.0 LessEqual e.1 (loops_between es (suc component) body))
    ∙ and_from (for_known known name e.0 LessEqual e.1) _ (and_from _ _ new (and_from _ _ low high))
    (loops_there next es (suc component) (suc column) body calls (omega (arith, few))
    (λ k l t. or_from _ _ (times_differ component k small (omega (arith, t)) (omega (arith, l))) (free k (omega (arith, l)) t)) (omega (arith, m)) w.2
    (λ inner i. inside inner (record {
      calls = i.calls;
      numbers = (let q = i.numbers in omega (arith, q));
      arrays = i.arrays;
      stays = λ v f h. i.stays v f (or_from _ _ (free_is_other component v f) h);
    })))) refl

blocks_there : (first n : ℕ) (inner : Known) (es : List Scheduled) → ((e : Scheduled) → IsIn e es → stmt_known (block_of first n e) inner ≡ true) → stmts_known inner (map (block_of first n) es) ≡ true
blocks_there first n inner [] h = refl
blocks_there first n inner (e ∷ es) h = and_from _ _ (h e (inl refl)) (blocks_there first n inner es (λ f i. h f (inr i)))

-- the body that is printed, where outside so much is known
pub body_there : (first : ℕ) (outer known : Known) (ends : List (Ix × Ix)) (es : List Scheduled) → known.prelude ≡ true → known.numbers ≡ outer.numbers → known.arrays ≡ outer.arrays → StaysFree outer known → outer.numbers ≡ first
    → length ends ≤ 12 → TimesFree known 0 → EndsFrom KnownAt first ends
    → ((e : Scheduled) → IsIn e es → Sized first (length ends) e × (around_known outer e.around e.assignment ≡ true) × HaveFreeNames e.around)
    → stmts_known known (body_between first ends es) ≡ true
body_there first outer known ends [] calls numbers arrays stays count few free w h = refl
body_there first outer known ends (e ∷ es) calls numbers arrays stays count few free w h =
    loops_there known ends 0 first (map (block_of first (length ends)) (e ∷ es)) calls (omega (arith, few)) free (omega (arith, numbers, count)) w
    (λ inner i. blocks_there first (length ends) inner (e ∷ es) (λ f k.
    let p = h f k in
    block_there first (length ends) outer inner f count
    (record { calls = i.calls; numbers = i.numbers ∙ ap (λ x. x + length ends) numbers; arrays = sym arrays ∙ i.arrays; stays = λ v g t. i.stays v g (stays v g t) }) p.0 p.1 p.2))
