-- What is known of a program's body, by its assignments and what stands round each.
use Rattle.std.proofs.Common.{◌≡◌, ℕ, ◌+◌, ◌≤◌, Bool, true, false, not, ◌&&◌, IsTrue, List, [], ◌∷◌, length, map, Some, refl, sym, ap, ◌∙◌, arith}
use Rattle.std.specs.Prelude.{slice_get}
use Rattle.std.proofs.lemmas.Bool.{and_parts, false≢true}
use Rattle.affc_ast.specs.declared.tree.Local.{Local}
use Rattle.affc_ast.specs.declared.tree.Program.{Program}
use Rattle.affc_ast.specs.declared.tree.Stmt.{Stmt}
use Rattle.affc_ast.specs.declared.tree.Stmt.TheOpen as layer
use Rattle.affc_ast.specs.declared.tree.Stmt.TheVariants.{Block}
use Rattle.affc_ast.specs.Locals.{all_true, plain_step, has_no_locals}
use Rattle.affc_ast.specs.Recursion.{by_stmt}
use Rattle.affc_ast.specs.Trace.{Assignment, assignments}
use Rattle.affc_domain.specs.Rounds.{Round, Loop, Test, rounds, loops_in, comparisons_in}
use Rattle.affc_cprint.proofs.Arms.{for_here, if_here, block_here}
use Rattle.affc_cprint.proofs.ReadBackValues.{Each}
use Rattle.affc_wellnamed.specs.Known.{Known, and_iterator, and_locals, all_at, cond_known, for_known, assign_known, block_known, stmt_step, stmt_known, known_behind, is_function, params_known, context_known, temps_known, body_known, program_known}
use Rattle.affc_cprint.specs.Forms.{is_none as no_entry}
use Rattle.affc_loopprint.proofs.Conditions.{denied_known, known_some}
use Rattle.affc_loopprint.proofs.Entries.{Walk, two_at, entries}

-- an assignment, and what stands round it from the outermost on
abbrev pub around_known : Known → List Round → Assignment → Bool
around_known known [] a = assign_known known a.array.0 a.subs a.value
around_known known (Loop iter low rel high ∷ rs) a = for_known known iter low rel high && around_known (and_iterator known iter) rs a
around_known known (Test cond ∷ rs) a = cond_known known cond && around_known known rs a

-- a statement that is known, and holds no locals
abbrev IsThere : Known → Stmt → Type 0
IsThere known s = (stmt_known s known ≡ true) × (by_stmt plain_step s ≡ true)

all_there : (known : Known) (body : List Stmt) → all_at known (map stmt_known body) ≡ true → all_true (map (by_stmt plain_step) body) ≡ true → Each (IsThere known) body
all_there known [] h k = tt
all_there known (s ∷ body) h k =
    let p = and_parts (stmt_known s known) (all_at known (map stmt_known body)) h in
    let q = and_parts (by_stmt plain_step s) (all_true (map (by_stmt plain_step) body)) k in
    ((p.0, q.0), all_there known body p.1 q.1)

-- without locals there is nothing more
none_more : (known : Known) → and_locals known [] ≡ known
none_more known = let e : known.numbers + 0 ≡ known.numbers = omega arith in λ i. record { prelude = known.prelude; is_taken = known.is_taken; numbers = e i; arrays = known.arrays }

in_block : (known : Known) (ls : List Local) (body : List Stmt) → IsThere known (Block ls body) → Each (IsThere known) body
in_block known ls body h = by ls (sym (ap (λ (f : Known → Bool). f known) (block_here stmt_step ls body)) ∙ h.0) (sym (block_here plain_step ls body) ∙ h.1)
  where
    by : (ls : List Local) → block_known known ls && all_at (and_locals known ls) (map stmt_known body) ≡ true → plain_step (layer.Block ls (map (by_stmt plain_step) body)) ≡ true → Each (IsThere known) body
    by [] h k = all_there known body (ap (λ n. all_at n (map stmt_known body)) (sym (none_more known)) ∙ (and_parts (block_known known []) _ h).1) k
    by (l ∷ ls) h k = absurd (false≢true k)

walk : Walk IsThere (λ known rs a. around_known known rs a ≡ true) and_iterator
walk = record {
  loop = λ known iter low rel high body h.
      let p = and_parts (for_known known iter low rel high) (all_at (and_iterator known iter) (map stmt_known body)) (sym (ap (λ (f : Known → Bool). f known) (for_here stmt_step iter low rel high body)) ∙ h.0) in
      (all_there (and_iterator known iter) body p.1 (sym (for_here plain_step iter low rel high body) ∙ h.1), λ rs a q. ap (λ b. b && around_known (and_iterator known iter) rs a) p.0 ∙ q);
  test = λ known cond body other h.
      let p = and_parts (cond_known known cond) (all_at known (map stmt_known body) && all_at known (map stmt_known other)) (sym (ap (λ (f : Known → Bool). f known) (if_here stmt_step cond body other)) ∙ h.0) in
      let q = and_parts (all_at known (map stmt_known body)) (all_at known (map stmt_known other)) p.1 in
      let l = and_parts (all_true (map (by_stmt plain_step) body)) (all_true (map (by_stmt plain_step) other)) (sym (if_here plain_step cond body other) ∙ h.1) in (
        all_there known body q.0 l.0,
        λ rs a k. ap (λ b. b && around_known known rs a) p.0 ∙ k,
        all_there known other q.1 l.1,
        λ rs a k. ap (λ b. b && around_known known rs a) (denied_known known cond ∙ p.0) ∙ k,
      );
  assign = λ known op array subs value h. h.0;
  block = in_block;
}

from_true : (b : Bool) → IsTrue b → b ≡ true
from_true true h = refl
from_true false h = absurd (false≢true h)

pub all_known : (program : Program) → body_known program ≡ true → IsTrue (has_no_locals program) → (n : ℕ) (rs : List Round) (a : Assignment) → slice_get (rounds program) n ≡ Some rs → slice_get (assignments program) n ≡ Some a
    → around_known (known_behind program.prelude program.name program.params program.temps) rs a ≡ true
all_known program h bare n rs a e f =
    let known = known_behind program.prelude program.name program.params program.temps in
    two_at (λ qs b. around_known known qs b ≡ true) (rounds program) (assignments program) n rs a
    (entries IsThere (λ k qs b. around_known k qs b ≡ true) and_iterator walk known program.body (all_there known program.body h (from_true (has_no_locals program) bare))) e f

-- each condition has a comparison or a remainder
pub few_around : (known : Known) (rs : List Round) (a : Assignment) → around_known known rs a ≡ true → length rs ≤ loops_in rs + comparisons_in rs
few_around known [] a h = omega arith
few_around known (Loop iter low rel high ∷ rs) a h = let r = few_around (and_iterator known iter) rs a (and_parts (for_known known iter low rel high) _ h).1 in omega (arith, r)
few_around known (Test cond ∷ rs) a h =
    let p = and_parts (cond_known known cond) (around_known known rs a) h in
    let r = few_around known rs a p.1 in
    let s = known_some known cond p.0 in
    omega (arith, r, s)

-- of a program that is known
pub known_body : (program : Program) → program_known program ≡ true → body_known program ≡ true
known_body program h =
    let a = and_parts (is_function program.name) _ h in
    let b = and_parts (not (no_entry program.params)) _ a.1 in
    let c = and_parts (params_known program.prelude program.name [] program.params) _ b.1 in
    let d = and_parts (context_known program) _ c.1 in
    (and_parts (temps_known program.prelude program.name program.params [] program.temps) (body_known program) d.1).1
