-- What is known of a program is known of its loops.
use Rattle.std.proofs.Common.{◌≡◌, ℕ, ◌+◌, ◌≤◌, Bool, true, false, cond, not, ◌&&◌, List, [], ◌∷◌, ◌++◌, length, refl, arith}
use Rattle.std.specs.List.{list_any}
use Rattle.std.proofs.lemmas.Bool.{and_parts, and_from, or_from}
use Rattle.std.proofs.lemmas.List.Sums.{sum_by-cons}
use Rattle.affc_lex.specs.Bytes.{same}
use Rattle.affc_lex.specs.Pieces.{is_word}
use Rattle.affc_ast.specs.Names.{is_reserved}
use Rattle.affc_ast.specs.declared.tree.Decl.{Decl}
use Rattle.affc_ast.specs.declared.tree.Ix.{Ix}
use Rattle.affc_ast.specs.declared.tree.Param.{Param}
use Rattle.affc_ast.specs.declared.tree.Param.TheVariants.{Number, Array}
use Rattle.affc_ast.specs.declared.tree.Program.{Program}
use Rattle.affc_trace.specs.Law.{IsIn}
use Rattle.affc_trace.specs.Target.{numbers_in}
use Rattle.affc_grammar.specs.Grammar.{Name}
use Rattle.affc_loops.specs.Loops.{Scheduled, time_name}
use Rattle.affc_cprint.proofs.Spelled.{off}
use Rattle.affc_wellnamed.specs.Known.{Known, is_new, is_refused, param_name, is_number, number_count, known_behind, is_temp, param_known, params_known, temp_known, temps_known, is_function, context_known, body_known, program_known}
use Rattle.affc_loopprint.specs.Spare.{HaveFreeNames}
use Rattle.affc_loopprint.proofs.EndCases.{EndsFrom}
use Rattle.affc_loopprint.proofs.Fitting.{loops_program}
use Rattle.affc_loopprint.proofs.KnownAround.{around_known}
use Rattle.affc_loopprint.proofs.KnownBlocks.{Sized, body_there}
use Rattle.affc_loopprint.proofs.KnownEnds.{KnownAt}
use Rattle.affc_loopprint.proofs.Moved.{all_wider, tests_wider}
use Rattle.affc_loopprint.proofs.TimeNames.{kept_apart}
use Rattle.affc_cprint.specs.Forms.{is_none}

pub numbers_are : (ps : List Param) → number_count ps ≡ numbers_in ps
numbers_are [] = refl
numbers_are (Number name low high ∷ ps) =
    let h : number_count ps ≡ numbers_in ps = numbers_are ps in
    let k : number_count (Number name low high ∷ ps) ≡ 1 + number_count ps = sum_by-cons (λ q. cond (is_number q) 1 0) (Number name low high) ps in
    omega (arith, h, k)
numbers_are (Array decl ∷ ps) =
    let h : number_count ps ≡ numbers_in ps = numbers_are ps in
    let k : number_count (Array decl ∷ ps) ≡ 0 + number_count ps = sum_by-cons (λ q. cond (is_number q) 1 0) (Array decl) ps in
    omega (arith, h, k)

-- ---- Names

without : (b : Bool) → b && true ≡ false → b ≡ false
without true e = e
without false e = refl

new_is_free : (known : Known) (w : Name) → is_new known false w ≡ true → is_reserved w ≡ false
new_is_free known w h =
    let p = and_parts (is_word w && not (is_refused known.prelude false w)) (not (known.is_taken w)) h in
    let q = and_parts (is_word w) (not (is_refused known.prelude false w)) p.0 in
    without (is_reserved w) (off (is_refused known.prelude false w) q.1)

param_apart : (n : ℕ) (known : Known) (q : Param) → param_known known q ≡ true → same (param_name q) (time_name n) ≡ false
param_apart n known (Number w low high) h = kept_apart n w (new_is_free known w (and_parts (is_new known false w) _ h).0)
param_apart n known (Array d) h = kept_apart n d.name (new_is_free known d.name (and_parts (is_new known false d.name) _ h).0)

params_apart : (n : ℕ) (prelude : Bool) (f : Name) (before qs : List Param) → params_known prelude f before qs ≡ true → list_any (λ (q : Param). same (param_name q) (time_name n)) qs ≡ false
params_apart n prelude f before [] h = refl
params_apart n prelude f before (q ∷ qs) h =
    let p = and_parts (param_known (known_behind prelude f before []) q) _ h in
    or_from _ _ (param_apart n (known_behind prelude f before []) q p.0) (params_apart n prelude f (before ++ q ∷ []) qs p.1)

temps_apart : (n : ℕ) (prelude : Bool) (f : Name) (qs : List Param) (before ds : List Decl) → temps_known prelude f qs before ds ≡ true → list_any (λ (d : Decl). same d.name (time_name n)) ds ≡ false
temps_apart n prelude f qs before [] h = refl
temps_apart n prelude f qs before (d ∷ ds) h =
    let p = and_parts (temp_known (known_behind prelude f qs before) d) _ h in
    let q = and_parts (is_new (known_behind prelude f qs before) false d.name) _ p.0 in
    or_from _ _ (kept_apart n d.name (new_is_free (known_behind prelude f qs before) d.name q.0)) (temps_apart n prelude f qs (before ++ d ∷ []) ds p.1)

-- ---- Where calls may stand

on : (b : Bool) → b ≡ true → true ≡ true
on b e = refl

param_more : (prelude : Bool) (f : Name) (before : List Param) (q : Param) → param_known (known_behind prelude f before []) q ≡ true → param_known (known_behind true f before []) q ≡ true
param_more prelude f before (Number w low high) h = h
param_more prelude f before (Array d) h =
    let old = known_behind prelude f before [] in
    let new = known_behind true f before [] in
    let p = and_parts (is_new old false d.name) _ h in
    let q = and_parts (not (is_temp d.role)) _ p.1 in
    let r = and_parts (not (is_none d.extents)) _ q.1 in
    and_from (is_new new false d.name) _ p.0 (and_from (not (is_temp d.role)) _ q.0 (and_from (not (is_none d.extents)) _ r.0 (all_wider old new (on prelude) (omega arith) d.extents r.1)))

params_more : (prelude : Bool) (f : Name) (before qs : List Param) → params_known prelude f before qs ≡ true → params_known true f before qs ≡ true
params_more prelude f before [] h = refl
params_more prelude f before (q ∷ qs) h =
    let p = and_parts (param_known (known_behind prelude f before []) q) _ h in
    and_from _ _ (param_more prelude f before q p.0) (params_more prelude f (before ++ q ∷ []) qs p.1)

temps_more : (prelude : Bool) (f : Name) (qs : List Param) (before ds : List Decl) → temps_known prelude f qs before ds ≡ true → temps_known true f qs before ds ≡ true
temps_more prelude f qs before [] h = refl
temps_more prelude f qs before (d ∷ ds) h =
    let old = known_behind prelude f qs before in
    let new = known_behind true f qs before in
    let p = and_parts (temp_known old d) _ h in
    let q = and_parts (is_new old false d.name) _ p.0 in
    let r = and_parts (is_temp d.role) _ q.1 in
    and_from (temp_known new d) _ (and_from (is_new new false d.name) _ q.0 (and_from (is_temp d.role) _ r.0 (all_wider old new (on prelude) (omega arith) d.extents r.1))) (temps_more prelude f qs (before ++ d ∷ []) ds p.1)

-- ---- The program

pub loops_known : (program : Program) (ends : List (Ix × Ix)) (es : List Scheduled) → program_known program ≡ true → length ends ≤ 12 → EndsFrom KnownAt (numbers_in program.params) ends
    → ((e : Scheduled) → IsIn e es → Sized (numbers_in program.params) (length ends) e × (around_known (known_behind program.prelude program.name program.params program.temps) e.around e.assignment ≡ true) × HaveFreeNames e.around)
    → program_known (loops_program program ends es) ≡ true
loops_known program ends es h few w each =
    let old = known_behind program.prelude program.name program.params program.temps in
    let new = known_behind true program.name program.params program.temps in
    let a = and_parts (is_function program.name) _ h in
    let b = and_parts (not (is_none program.params)) _ a.1 in
    let c = and_parts (params_known program.prelude program.name [] program.params) _ b.1 in
    let d = and_parts (context_known program) _ c.1 in
    let e = and_parts (temps_known program.prelude program.name program.params [] program.temps) (body_known program) d.1 in
    let free_name = off (is_reserved program.name) (and_parts (is_word program.name) (not (is_reserved program.name)) a.0).1 in
    and_from (is_function program.name) _ a.0
    (and_from (not (is_none program.params)) _ b.0
    (and_from (params_known true program.name [] program.params) _ (params_more program.prelude program.name [] program.params c.0)
    (and_from (context_known (loops_program program ends es)) _
    (tests_wider (known_behind program.prelude program.name program.params []) (known_behind true program.name program.params []) (on program.prelude) (omega arith) program.context d.0)
    (and_from (temps_known true program.name program.params [] program.temps) (body_known (loops_program program ends es)) (temps_more program.prelude program.name program.params [] program.temps e.0)
    (body_there (numbers_in program.params) old new ends es refl refl refl (λ v f t. t) (numbers_are program.params) few
    (λ k l t. or_from _ _ (kept_apart k program.name free_name) (or_from _ _ (params_apart k program.prelude program.name [] program.params c.0) (temps_apart k program.prelude program.name program.params [] program.temps e.0)))
    w each)))))
