-- What is written for a condition where it stands, with the brackets that it has there, and the pieces in which it is written.
use Rattle.std.proofs.Common.{◌≡◌, ℕ, ◌+◌, ◌<◌, Bool, true, false, not, ◌&&◌, nat_lt, nat_abs, ℤ, List, [], ◌∷◌, ◌++◌, map, take, length, get_or, codes, IsTrue, Option, Some, None, is_some, refl, sym, ap, ◌∙◌, arith, append_assoc, decimal as digits_of, if◌then◌else◌}
use Rattle.std.specs.List.{flat_map}
use Rattle.std.proofs.lemmas.List.{append-nil, map-append, take_more, length-map, length-take-le}
use Rattle.std.proofs.lemmas.List.Concat.{flat_map-append}
use Rattle.std.proofs.lemmas.Bool.{lt-ltb}
use Rattle.affc_ast.specs.declared.tree.Compare.{Compare}
use Rattle.affc_ast.specs.declared.tree.Cond.{Cond}
use Rattle.affc_ast.specs.declared.tree.Cond.TheVariants as tree
use Rattle.affc_ast.specs.declared.tree.Cond.TheOpen as layer
use Rattle.affc_ast.specs.declared.tree.Ix.{Ix}
use Rattle.affc_ast.specs.Joined.{is_ordered}
use Rattle.affc_ast.specs.Recursion.{by_ix}
use Rattle.affc_ast.proofs.Steps.{all_here, any_here}
use Rattle.affc_grammar.specs.Grammar.{Digits, zero_mark, is_divisor, TermText, CondText, all_of, or_all, AllText, prim, and_prim, PrimText}
use Rattle.affc_grammar.specs.Printed.{Names, ix_step, CondWritten, prim_written, all_written, any_written, and_prims, or_alls, divisible_by, cond_step, test_by, test_text, holding}
use Rattle.affc_cprint.specs.Adds.{Adds}
use Rattle.affc_cprint.specs.declared.brackets.Standing.{Standing}
use Rattle.affc_cprint.specs.declared.brackets.Standing.TheVariants.{Alone, InAny, InAll}
use Rattle.affc_cprint.specs.Forms.{is_none}
use Rattle.affc_cprint.specs.Layout.{◌then◌, term_layout, cond_layout, all_layout, prim_layout}
use Rattle.affc_cprint.specs.Places.{bracketed, opened, closed}
use Rattle.affc_cprint.specs.Standings.{cond_at, is_joined_at, is_in_all, written, comparison_layout, remainder_layout, behind, side_by_side, entries_layout, all_layout_at, any_layout_at}
use Rattle.affc_cprint.proofs.Places.{pieces}
use Rattle.affc_cprint.proofs.Levels.{held}
use Rattle.affc_cprint.proofs.Writes.{◌next◌}

-- ---- Comparisons and remainders

prim_at : {prelude : Bool} (place : Standing) (q : PrimText prelude true) → cond_at place (prim_written q) ≡ prim_layout q
prim_at Alone q = refl
prim_at InAny q = refl
prim_at InAll q = refl

divisible_at : {prelude : Bool} (place : Standing) (t : TermText prelude) (ds : Digits) (so b : Bool) (o : Option (IsTrue (is_divisor ds))) → is_some o ≡ b
    → cond_at place (divisible_by t ds o so) ≡ (if b then term_layout t then codes " % " then ds then codes " " then zero_mark so then codes " 0" else codes "0 < 0")
divisible_at place t ds so true (Some h) e = prim_at place _
divisible_at place t ds so true None e = cc
divisible_at place t ds so false (Some h) e = cc
divisible_at place t ds so false None e = prim_at place _

pub remainder_text : (prelude : Bool) (names : Names) (place : Standing) (c : Cond) (value : Ix) (by : ℤ) (so : Bool) → c ≡ tree.Divides value by so → cond_at place (written prelude names c) ≡ remainder_layout prelude names value by so
remainder_text prelude names place c value by so is =
    let ds = digits_of (nat_abs by) in
    ap (λ x. cond_at place (written prelude names x)) is ∙ divisible_at place (by_ix (ix_step prelude names) value).right_of_sum ds so (is_divisor ds) (holding (is_divisor ds)) (held (is_divisor ds))

-- a condition of a `context` line
pub test_pieces : (names : Names) (c : Compare) → prim_layout (test_text names c) ≡ (if is_ordered c.rel then comparison_layout true names c.left c.rel c.right else codes "0 < 0")
test_pieces names c = of (is_ordered c.rel) (holding (is_ordered c.rel)) (held (is_ordered c.rel))
  where
    of : (b : Bool) (o : Option (IsTrue (is_ordered c.rel))) → is_some o ≡ b → prim_layout (test_by names c o) ≡ (if b then comparison_layout true names c.left c.rel c.right else codes "0 < 0")
    of true (Some h) e = refl
    of true None e = cc
    of false (Some h) e = cc
    of false None e = refl

-- ---- Conditions that are joined

all_from : {prelude : Bool} (a : AllText prelude true) (ws : List (CondWritten prelude)) → all_layout (and_prims a ws) ≡ all_layout a ++ flat_map (behind (codes " && ") InAll) ws
all_from a [] = sym (append-nil (all_layout a))
all_from a (w ∷ ws) = all_from (and_prim a w.in_all) ws ∙ append_assoc (all_layout a) (behind (codes " && ") InAll w) (flat_map (behind (codes " && ") InAll) ws)

any_from : {prelude : Bool} (c : CondText prelude true) (ws : List (CondWritten prelude)) → cond_layout (or_alls c ws) ≡ cond_layout c ++ flat_map (behind (codes " || ") InAny) ws
any_from c [] = sym (append-nil (cond_layout c))
any_from c (w ∷ ws) = any_from (or_all refl c w.in_any) ws ∙ append_assoc (cond_layout c) (behind (codes " || ") InAny w) (flat_map (behind (codes " || ") InAny) ws)

all_written_at : {prelude : Bool} (place : Standing) (a : AllText prelude true) → cond_at place (all_written a) ≡ bracketed (is_in_all place && true) (all_layout a)
all_written_at Alone a = sym (append-nil (all_layout a))
all_written_at InAny a = sym (append-nil (all_layout a))
all_written_at InAll a = refl

any_written_at : {prelude : Bool} (place : Standing) (c : CondText prelude true) → cond_at place (any_written c) ≡ bracketed (is_joined_at place && true) (cond_layout c)
any_written_at Alone c = sym (append-nil (cond_layout c))
any_written_at InAny c = refl
any_written_at InAll c = refl

all_is : (prelude : Bool) (names : Names) (place : Standing) (ws : List (CondWritten prelude)) → cond_at place (cond_step prelude names (layer.All ws)) ≡ all_layout_at place ws
all_is prelude names Alone [] = refl
all_is prelude names InAny [] = refl
all_is prelude names InAll [] = refl
all_is prelude names place (w ∷ ws) = all_written_at place (and_prims (prim w.in_all) ws) ∙ ap (bracketed (is_in_all place && true)) (all_from (prim w.in_all) ws)

any_is : (prelude : Bool) (names : Names) (place : Standing) (ws : List (CondWritten prelude)) → cond_at place (cond_step prelude names (layer.Any ws)) ≡ any_layout_at place ws
any_is prelude names Alone [] = refl
any_is prelude names InAny [] = refl
any_is prelude names InAll [] = refl
any_is prelude names place (w ∷ ws) = any_written_at place (or_alls (all_of w.in_any) ws) ∙ ap (bracketed (is_joined_at place && true)) (any_from (all_of w.in_any) ws)

none_mapped : {A B : Type 0} (f : A → B) (xs : List A) → is_none (map f xs) ≡ is_none xs
none_mapped f [] = refl
none_mapped f (x ∷ xs) = refl

-- the brackets, and what stands between them
pub all_pieces : (prelude : Bool) (names : Names) (place : Standing) (c : Cond) (list slice other : List Cond) (w : Bool) → c ≡ tree.All list → slice ≡ list → other ≡ list → w ≡ (is_in_all place && not (is_none other))
    → cond_at place (written prelude names c) ≡ (opened w ++ entries_layout (codes " && ") InAll (map (written prelude names) slice)) ++ closed w
all_pieces prelude names place c list slice other w is same same' wanted =
    let ws = map (written prelude names) list in
    ap (λ x. cond_at place (written prelude names x)) is ∙ ap (cond_at place) (all_here (cond_step prelude names) list) ∙ all_is prelude names place ws
    ∙ pieces w (is_in_all place && not (is_none ws)) (entries_layout (codes " && ") InAll ws) (wanted ∙ ap (λ l. is_in_all place && not (is_none l)) same' ∙ ap (λ b. is_in_all place && not b) (sym (none_mapped (written prelude names) list)))
    ∙ ap (λ l. (opened w ++ entries_layout (codes " && ") InAll (map (written prelude names) l)) ++ closed w) (sym same)

pub any_pieces : (prelude : Bool) (names : Names) (place : Standing) (c : Cond) (list slice other : List Cond) (w : Bool) → c ≡ tree.Any list → slice ≡ list → other ≡ list → w ≡ (is_joined_at place && not (is_none other))
    → cond_at place (written prelude names c) ≡ (opened w ++ entries_layout (codes " || ") InAny (map (written prelude names) slice)) ++ closed w
any_pieces prelude names place c list slice other w is same same' wanted =
    let ws = map (written prelude names) list in
    ap (λ x. cond_at place (written prelude names x)) is ∙ ap (cond_at place) (any_here (cond_step prelude names) list) ∙ any_is prelude names place ws
    ∙ pieces w (is_joined_at place && not (is_none ws)) (entries_layout (codes " || ") InAny ws) (wanted ∙ ap (λ l. is_joined_at place && not (is_none l)) same' ∙ ap (λ b. is_joined_at place && not b) (sym (none_mapped (written prelude names) list)))
    ∙ ap (λ l. (opened w ++ entries_layout (codes " || ") InAny (map (written prelude names) l)) ++ closed w) (sym same)

-- ---- A loop over them

-- one more behind those before it
side_more : {prelude : Bool} (mark : List ℕ) (place : Standing) (ws : List (CondWritten prelude)) (w : CondWritten prelude)
    → side_by_side mark place (ws ++ w ∷ []) ≡ side_by_side mark place ws ++ ((if nat_lt 0 (length ws) then mark else []) ++ cond_at place w)
side_more mark place [] w = append-nil (cond_at place w)
side_more mark place (v ∷ ws) w =
    let some : 0 < length (v ∷ ws) = omega arith in
    ap (λ t. cond_at place v ++ t) (flat_map-append (behind mark place) ws (w ∷ []) ∙ ap (λ t. flat_map (behind mark place) ws ++ t) (append-nil (mark ++ cond_at place w))) ∙ sym (append_assoc (cond_at place v) (flat_map (behind mark place) ws) (mark ++ cond_at place w))
    ∙ ap (λ b. (cond_at place v ++ flat_map (behind mark place) ws) ++ ((if b then mark else []) ++ cond_at place w)) (sym (lt-ltb 0 (length (v ∷ ws)) some))

pub entries_step : {o0 o1 o2 o3 : List ℕ} (prelude : Bool) (names : Names) (mark : List ℕ) (place : Standing) (list : List Cond) (i : ℕ) (x : Cond) (is_later : Bool) → i < length list → x ≡ get_or list i x → is_later ≡ nat_lt 0 i
    → Adds o0 o1 (side_by_side mark place (map (written prelude names) (take i list))) → Adds o1 o2 (if is_later then mark else []) → Adds o2 o3 (cond_at place (written prelude names x))
    → Adds o0 o3 (side_by_side mark place (map (written prelude names) (take (i + 1) list)))
entries_step {o0 = o0} prelude names mark place list i x is_later lt is later before between one =
    let ws = map (written prelude names) (take i list) in
    let w = written prelude names x in
    let mapped : map (written prelude names) (take (i + 1) list) ≡ ws ++ w ∷ [] = ap (map (written prelude names)) (take_more list i x lt ∙ ap (λ z. take i list ++ z ∷ []) (sym is)) ∙ map-append (written prelude names) (take i list) (x ∷ []) in
    let count : length ws ≡ i = length-map (take i list) (written prelude names) ∙ length-take-le i list (omega arith) in
    let flag : is_later ≡ nat_lt 0 (length ws) = later ∙ ap (nat_lt 0) (sym count) in
    record {
      is = (before next (between next one)).is
          ∙ ap (λ b. o0 ++ (side_by_side mark place ws ++ ((if b then mark else []) ++ cond_at place w))) flag
          ∙ ap (λ t. o0 ++ t) (sym (ap (side_by_side mark place) mapped ∙ side_more mark place ws w));
    }
