-- The drafts of values that are read are those of the grammar's values, read by the grammar.
use Rattle.std.proofs.Common.{◌≡◌, ℕ, zero, suc, ◌+◌, ◌-◌, ◌==◌, ◌&&◌, Bool, true, false, codes, ◌≤◌, ◌<◌, List, [], ◌∷◌, ◌++◌, length, drop, map, Option, Some, None, IsTrue, if◌then◌else◌, Ok, Err, refl, sym, ap, ◌∙◌, arith, length-append}
use Rattle.std.specs.Option.{option_map, is_some}
use Rattle.std.proofs.lemmas.Bool.Decides.{nat_tests}
use Rattle.affc_ast.specs.declared.tree.Op.{Op}
use Rattle.affc_lex.specs.Bytes.{same, decimal}
use Rattle.affc_lex.specs.Pieces.{leading_digits}
use Rattle.affc_grammar.specs.Grammar as g
use Rattle.affc_grammar.specs.Grammar.{Symbol, Name, Digits, ValueText, is_mark_kind, is_shift, level_of, mark, op_mark, shift_mark, ix_symbols, dims_symbols, value_symbols}
use Rattle.affc_grammar.specs.Draft.{IxDraft, ValueDraft, load, constant, cast, complement, binary, shift, ix_draft, dims_draft, value_draft}
use Rattle.affc_grammar.specs.Reader.{At, Reader, give, fail, deep, after, on, all}
use Rattle.affc_grammar.specs.Reading as r
use Rattle.affc_grammar.specs.Reading.{this_mark, any_word, any_value, is_value_kind, is_number_kind, shift_sign, choose, ops, ix_inside, op_of, at_level, op_more, shift_more}
use Rattle.affc_grammar.proofs.Rules.{Whole, type_name_symbols, tilde_symbols, tildes_rule, primary_rule, op_rule, shift_rule, level_rule, value_inside_rule}
use Rattle.affc_syntax.specs.declared.draft.symbol.Symbol as code
use Rattle.affc_syntax.specs.draft.Symbols.{seen}
use Rattle.affc_syntax.specs.Ahead.{past}
use Rattle.affc_syntax.specs.Readers.{mapped}
use Rattle.affc_syntax.specs.IxReading.{inside, dims}
use Rattle.affc_syntax.specs.ValueTests.{constant_value, shift_value, only_at, op_at}
use Rattle.affc_syntax.specs.ValueReading as v
use Rattle.affc_syntax.specs.ValueReading.{is_type_at, cast_of, behind_parens, complements, tilde, more_tildes, loaded, parens, plain, primary, shifted, more_shifts, combined, more_operations, more_operands, value_level, value_inside}
use Rattle.affc_syntax.proofs.Draws.{Draws, Placed, placed_on, then_is, either_mapped, either_turned, past_one, failed, closed_is, all_is, turned_all_is, at_number, no_longer}
use Rattle.affc_syntax.proofs.IxExact.{inside_is, dims_is, holding_some}

-- ---- What stands first

constant_turned : (x : Symbol) → constant_value x ≡ option_map (λ bytes. decimal (leading_digits bytes)) (any_value x)
constant_turned x = by_kind (is_value_kind x.kind)
  where
    by_kind : (b : Bool) → (if b then Some (decimal (leading_digits x.bytes)) else None) ≡ option_map (λ bytes. decimal (leading_digits bytes)) (if b then Some x.bytes else None)
    by_kind true = refl
    by_kind false = refl

abbrev Places : Type 0
Places = (by : Digits) × IsTrue (is_shift by)

places_of : (bytes : List ℕ) (o : Option (IsTrue (is_shift bytes))) → (if is_some o then Some (decimal bytes) else None) ≡ option_map (λ (p : Places). decimal p.0) (r.with_proof {P = λ by. IsTrue (is_shift by)} bytes o)
places_of bytes None = refl
places_of bytes (Some h) = refl

shift_turned : (x : Symbol) → shift_value x ≡ option_map (λ (p : Places). decimal p.0) (r.shift_number x)
shift_turned x = by_kind (is_number_kind x.kind)
  where
    by_kind : (b : Bool) → (if b then (if is_shift x.bytes then Some (decimal x.bytes) else None) else None) ≡ option_map (λ (p : Places). decimal p.0) (if b then r.with_proof {P = λ by. IsTrue (is_shift by)} x.bytes (r.holding (is_shift x.bytes)) else None)
    by_kind true = ap (λ b. if b then Some (decimal x.bytes) else None) (sym (holding_some (is_shift x.bytes))) ∙ places_of x.bytes (r.holding (is_shift x.bytes))
    by_kind false = refl

abbrev Operation : ℕ → Type 0
Operation n = (op : Op) × IsTrue (level_of op == suc n)

op_of_proof : (n : ℕ) (op : Op) (o : Option (IsTrue (level_of op == suc n))) → (if is_some o then Some op else None) ≡ option_map (λ (p : Operation n). p.0) (r.with_proof {P = λ op. IsTrue (level_of op == suc n)} op o)
op_of_proof n op None = refl
op_of_proof n op (Some h) = refl

only_turned : (n : ℕ) (o : Option Op) → only_at (suc n) o ≡ option_map (λ (p : Operation n). p.0) (at_level n o)
only_turned n None = refl
only_turned n (Some op) = ap (λ b. if b then Some op else None) (sym (holding_some (level_of op == suc n))) ∙ op_of_proof n op (r.holding (level_of op == suc n))

op_turned : (n : ℕ) (x : Symbol) → op_at (suc n) x ≡ option_map (λ (p : Operation n). p.0) (op_of n x)
op_turned n x = by_kind (is_mark_kind x.kind)
  where
    by_kind : (b : Bool) → (if b then only_at (suc n) (choose ops x.bytes) else None) ≡ option_map (λ (p : Operation n). p.0) (if b then at_level n (choose ops x.bytes) else None)
    by_kind true = only_turned n (choose ops x.bytes)
    by_kind false = refl

-- ---- `uint64_t` alone

no_type_with : (at n : ℕ) (w : Name) (ds : List IxDraft) (a : IxDraft) → is_type_at at (load n w (ds ++ a ∷ [])) ≡ false
no_type_with at n w [] a = refl
no_type_with at n w (x ∷ xs) a = refl

other_place : (at n : ℕ) (b : Bool) → at < n → (n == at && b) ≡ false
other_place at n b lt = grind (arith, nat_tests)

behind_first : {calls : Bool} {m : ℕ} (at n : ℕ) (v : ValueText calls m) → at < n → is_type_at at (value_draft n v) ≡ false
behind_first at n (g.complement v) lt = refl
behind_first at n (g.load w g.no_dims) lt = other_place at n (same w (codes "uint64_t")) lt
behind_first at n (g.load w (g.and_dim ds a)) lt = no_type_with at n w _ _
behind_first at n (g.constant bytes) lt = refl
behind_first at n (g.parens v) lt = behind_first at (n + 1) v (omega arith)
behind_first at n (g.cast a) lt = refl
behind_first at n (g.operand v) lt = behind_first at n v lt
behind_first at n (g.binary a op h b) lt = refl
behind_first at n (g.shift v left by h) lt = refl

this_place : (n : ℕ) (b : Bool) → (n == n && b) ≡ b
this_place n b = grind (arith, nat_tests)

type_is : {calls : Bool} {m : ℕ} (n : ℕ) (v : ValueText calls m) → is_type_at n (value_draft n v) ≡ r.is_type_name v
type_is n (g.complement v) = refl
type_is n (g.load w g.no_dims) = this_place n (same w (codes "uint64_t"))
type_is n (g.load w (g.and_dim ds a)) = no_type_with n n w _ _
type_is n (g.constant bytes) = refl
type_is n (g.parens v) = behind_first n (n + 1) v (omega arith)
type_is n (g.cast a) = refl
type_is n (g.operand v) = type_is n v
type_is n (g.binary a op h b) = refl
type_is n (g.shift v left by h) = refl

-- ---- Values without an operator

module _ (calls : Bool) (end room : ℕ) where
  cast_is : (p : ℕ) (us : List Symbol) → length us ≤ end → end - length us ≡ p + 4 → cast_of calls end room us ≡ mapped (value_draft p) (after (ix_inside calls room) (λ a. on (this_mark (codes ")")) (λ _. give (g.cast a))) us)
  unfolding after
  cast_is p us le e =
      then_is (inside calls end room us) (ix_inside calls room us) (ix_draft (end - length us)) _ _ (value_draft p) (inside_is calls end room us le) (λ a vs q.
      closed_is (codes ")") (g.cast a) _ (value_draft p) vs (λ i. cast (ix_draft (e i) a)))

  behind_is : (p : ℕ) (v : ValueText calls 6) (b : Bool) (ts : List Symbol) → r.is_type_name v ≡ b → Placed end p (1 + length (value_symbols v) + 1) ts → behind_parens calls end room (value_draft (p + 1) v) b ts ≡ mapped (value_draft p) (r.read_parens calls room v b ts)
  unfolding give
  behind_is p v true ts e here =
      either_mapped (this_mark (codes "(")) _ (give (g.parens v)) (λ _ us. cast_of calls end room us) (Ok (value_draft (p + 1) v, ts)) (value_draft p) ts
      (λ o us c.
      let one = past_one (this_mark (codes "(")) ts o us c in
      let alone : length (value_symbols v) ≡ 1 = ap length (type_name_symbols v e) in
      let le = here.within in
      let place = here.place in
      let less : length us ≤ end = omega arith in
      let behind : end - length us ≡ p + 4 = omega arith in
      cast_is p us less behind)
      refl
  behind_is p v false ts e here = refl

  module _ (inner : Reader Symbol (ValueText calls 6)) (drawn : Reader Symbol ValueDraft) (rule : Whole room 1 value_symbols inner) (h : Draws end value_draft drawn inner) where
    parens_is : (p : ℕ) (us : List Symbol) → length us ≤ end → end - length us ≡ p + 1 → parens calls end room drawn us ≡ mapped (value_draft p) (after inner (λ v. on (this_mark (codes ")")) (λ _. r.read_parens calls room v (r.is_type_name v))) us)
    unfolding after
    parens_is p us le e =
        then_is (drawn us) (inner us) (value_draft (end - length us)) _ _ (value_draft p) (h us le) (λ v vs q.
        either_mapped (this_mark (codes ")")) _ fail (λ _ ws. behind_parens calls end room (value_draft (end - length us) v) (is_type_at (end - length us) (value_draft (end - length us) v)) ws) (Err (At vs)) (value_draft p) vs
        (λ o ws c.
        let one = past_one (this_mark (codes ")")) vs o ws c in
        let count = ap length (rule.sound us v vs q) ∙ length-append (value_symbols v) vs in
        ap (λ b. behind_parens calls end room (value_draft (end - length us) v) b ws) (type_is (end - length us) v)
        ∙ ap (λ n. behind_parens calls end room (value_draft n v) (r.is_type_name v) ws) e
        ∙ behind_is p v (r.is_type_name v) ws refl (record { within = omega arith; place = omega arith }))
        (failed (value_draft p) vs))

    plain_is : Draws end value_draft (plain calls end room drawn) (r.read_plain calls room inner)
    unfolding after give
    plain_is ts le =
        let at = end - length ts in
        either_turned any_value constant_value (λ bytes. decimal (leading_digits bytes)) constant_turned (λ bytes. give (g.constant bytes)) _ (λ n us. Ok (constant n, us)) _ (value_draft at) ts (λ bytes us c. refl)
        (either_mapped any_word _ _ (λ w us. loaded calls end room at w us) _ (value_draft at) ts
        (λ w us c.
        let one = past_one any_word ts w us c in
        let less : length us ≤ end = omega arith in
        let place : end - length us ≡ end - length ts + 1 = omega arith in
        then_is (dims calls end room us) (r.read_dims calls room us) (dims_draft (end - length us)) _ _ (value_draft at) (dims_is calls end room us less) (λ ds vs q. (λ i. Ok (load at w (dims_draft (place i) ds), vs))))
        (either_mapped (this_mark (codes "(")) _ fail (λ _ us. parens calls end room drawn us) (Err (At ts)) (value_draft at) ts
        (λ o us c.
        let one = past_one (this_mark (codes "(")) ts o us c in
        let less : length us ≤ end = omega arith in
        let place : end - length us ≡ end - length ts + 1 = omega arith in
        parens_is at us less place)
        (failed (value_draft at) ts)))

    tildes_are : (n : ℕ) (ts : List Symbol) → more_tildes n ts ≡ mapped (λ m. m) (all (this_mark (codes "~")) (λ _ m. give (suc m)) n ts)
    unfolding give
    tildes_are n ts = all_is (this_mark (codes "~")) (λ _ m. give (suc m)) tilde (λ m. m) (λ m us. Unit {0}) (λ k left us vs c here. refl) (λ k left us vs c here b ws q. tt) n ts tt

    tilde_length : (n : ℕ) → length (tilde_symbols n) ≡ n
    tilde_length zero = refl
    tilde_length (suc n) =
        let both = length-append (tilde_symbols n) (mark (codes "~") ∷ []) in
        let rest = tilde_length n in
        omega arith

    complements_are : (p n m : ℕ) (v : ValueText calls 0) → m ≡ p + n → complements n (value_draft m v) ≡ value_draft p (r.complements n v)
    complements_are p zero m v e = let same : m ≡ p = omega arith in ap (λ q. value_draft q v) same
    complements_are p (suc n) m v e =
        let back : (m - 1) + 1 ≡ m = omega arith in
        ap (λ q. complements n (complement (value_draft q v))) (sym back) ∙ complements_are p n (m - 1) (g.complement v) (omega arith)

    primary_is : Draws end value_draft (primary calls end room drawn) (r.read_primary calls room inner)
    unfolding after give
    primary_is ts le =
        let at = end - length ts in
        then_is (more_tildes zero ts) (r.read_tildes ts) (λ n. n) _ _ (value_draft at) (tildes_are zero ts) (λ n us q.
        let count = ap length ((tildes_rule {room = room}).sound ts n us q) ∙ length-append (tilde_symbols n) us in
        let tildes = tilde_length n in
        let less : length us ≤ end = omega arith in
        let place : end - length us ≡ at + n = omega arith in
        then_is (plain calls end room drawn us) (r.read_plain calls room inner us) (value_draft (end - length us)) _ _ (value_draft at) (plain_is us less) (λ v vs s.
        ap (λ d. Ok (d, vs)) (complements_are at n (end - length us) v place)))

-- ---- Levels of operators

not_three : (n : ℕ) → (suc (suc (suc (suc n))) == 3) ≡ false
not_three n = grind (arith, nat_tests)

module _ {calls : Bool} (end : ℕ) where
  shifted_is : (p : ℕ) (k : Bool) (left : ValueText calls 3) (ts us : List Symbol) → past shift_sign ts ≡ Some (k, us) → Placed end p (length (value_symbols left)) ts → shifted k (value_draft p left) us ≡ mapped (value_draft p) (shift_more k left us)
  unfolding give
  shifted_is p k left ts us c here =
      either_turned r.shift_number shift_value (λ (b : Places). decimal b.0) shift_turned (λ by. give (g.shift left k by.0 by.1)) fail (λ by vs. Ok (shift k (value_draft p left) by, vs)) (Err (At us)) (value_draft p) us
      (λ by vs q. refl)
      (failed (value_draft p) us)

  shifted_keeps : (p : ℕ) (k : Bool) (left : ValueText calls 3) (ts us : List Symbol) → past shift_sign ts ≡ Some (k, us) → Placed end p (length (value_symbols left)) ts → (b : ValueText calls 3) (vs : List Symbol) → shift_more k left us ≡ Ok (b, vs) → Placed end p (length (value_symbols b)) vs
  shifted_keeps p k left ts us c here b vs q =
      let one = past_one shift_sign ts k us c in
      let le = here.within in
      let e = here.place in
      let whole = (shift_rule {room = 0} k left).sound us b vs q in
      let count = ap length whole in
      let front = length-append (value_symbols left) (mark (shift_mark k) ∷ us) in
      let back = length-append (value_symbols b) vs in
      record { within = omega arith; place = omega arith }

  module _ {room : ℕ} (n : ℕ) (level : Reader Symbol (ValueText calls n)) (below : Reader Symbol ValueDraft) (rule : Whole room 0 value_symbols level) (h : Draws end value_draft below level) where
    combined_is : (p : ℕ) (k : Operation n) (left : ValueText calls (suc n)) (ts us : List Symbol) → past (op_of n) ts ≡ Some (k, us) → Placed end p (length (value_symbols left)) ts → combined below k.0 (value_draft p left) us ≡ mapped (value_draft p) (op_more n level k left us)
    unfolding after give
    combined_is p k left ts us c here =
        let one = past_one (op_of n) ts k us c in
        let le = here.within in
        let e = here.place in
        let less : length us ≤ end = omega arith in
        let place : end - length us ≡ p + length (value_symbols left) + 1 = omega arith in
        then_is (below us) (level us) (value_draft (end - length us)) _ _ (value_draft p) (h us less) (λ b vs q. (λ i. Ok (binary k.0 (value_draft p left) (value_draft (place i) b), vs)))

    combined_keeps : (p : ℕ) (k : Operation n) (left : ValueText calls (suc n)) (ts us : List Symbol) → past (op_of n) ts ≡ Some (k, us) → Placed end p (length (value_symbols left)) ts
        → (b : ValueText calls (suc n)) (vs : List Symbol) → op_more n level k left us ≡ Ok (b, vs) → Placed end p (length (value_symbols b)) vs
    combined_keeps p k left ts us c here b vs q =
        let one = past_one (op_of n) ts k us c in
        let le = here.within in
        let e = here.place in
        let whole = (op_rule n rule k left).sound us b vs q in
        let count = ap length whole in
        let front = length-append (value_symbols left) (mark (op_mark k.0) ∷ us) in
        let back = length-append (value_symbols b) vs in
        record { within = omega arith; place = omega arith }

    operations_are : (p : ℕ) (a : ValueText calls n) (ts : List Symbol) → Placed end p (length (value_symbols a)) ts → more_operations (suc n) below (value_draft p a) ts ≡ mapped (value_draft p) (all (op_of n) (op_more n level) (g.operand a) ts)
    operations_are p a ts here =
        turned_all_is (op_of n) (op_at (suc n)) (λ k. k.0) (op_turned n) (op_more n level) (combined below) (value_draft p) (λ left us. Placed end p (length (value_symbols left)) us) (combined_is p) (combined_keeps p) (g.operand a) ts here

  shifts_are : (p : ℕ) (a : ValueText calls 2) (ts : List Symbol) → Placed end p (length (value_symbols a)) ts → more_shifts (value_draft p a) ts ≡ mapped (value_draft p) (all shift_sign shift_more (g.operand a) ts)
  shifts_are p a ts here = all_is shift_sign shift_more shifted (value_draft p) (λ left us. Placed end p (length (value_symbols left)) us) (shifted_is p) (shifted_keeps p) (g.operand a) ts here

  operands_are : {room : ℕ} (n : ℕ) (level : Reader Symbol (ValueText calls n)) (below : Reader Symbol ValueDraft) → Whole room 0 value_symbols level → Draws end value_draft below level
      → (p : ℕ) (a : ValueText calls n) (ts : List Symbol) → Placed end p (length (value_symbols a)) ts → more_operands (suc n) below (value_draft p a) ts ≡ mapped (value_draft p) (r.read_operands n level a ts)
  operands_are zero level below rule h p a ts here = operations_are zero level below rule h p a ts here
  operands_are (suc zero) level below rule h p a ts here = operations_are (suc zero) level below rule h p a ts here
  operands_are (suc (suc zero)) level below rule h p a ts here = shifts_are p a ts here
  operands_are (suc (suc (suc n))) level below rule h p a ts here =
      ap (λ b. (if b then more_shifts else more_operations (suc (suc (suc (suc n)))) below) (value_draft p a) ts) (not_three n)
      ∙ operations_are (suc (suc (suc n))) level below rule h p a ts here

  level_is : {room : ℕ} (plain : Reader Symbol (ValueText calls 0)) (drawn : Reader Symbol ValueDraft) → Whole room 0 value_symbols plain → Draws end value_draft drawn plain → (n : ℕ) → Draws end value_draft (value_level drawn n) (r.read_level plain n)
  unfolding after
  level_is plain drawn rule h zero ts le = h ts le
  level_is plain drawn rule h (suc n) ts le =
      let at = end - length ts in
      then_is (value_level drawn n ts) (r.read_level plain n ts) (value_draft at) _ _ (value_draft at) (level_is plain drawn rule h n ts le) (λ a us q.
      operands_are n (r.read_level plain n) (value_level drawn n) (level_rule rule n) (level_is plain drawn rule h n) at a us
      (placed_on [] (value_symbols a) (record { within = le; place = omega arith }) ((level_rule rule n).sound ts a us q)))

pub value_inside_is : (calls : Bool) (end room : ℕ) → Draws end value_draft (value_inside calls end room) (r.value_inside calls room)
unfolding value_inside r.value_inside deep
value_inside_is calls end zero ts le = refl
value_inside_is calls end (suc room) ts le =
    level_is end (r.read_primary calls room (r.value_inside calls room)) (primary calls end room (value_inside calls end room)) (primary_rule (value_inside_rule calls room))
    (primary_is calls end room (r.value_inside calls room) (value_inside calls end room) (value_inside_rule calls room) (value_inside_is calls end room)) 6 ts le

pub value_is : (calls : Bool) (end room : ℕ) → Draws end value_draft (v.value calls end room) (r.read_value calls room)
value_is calls end room =
    level_is end (r.read_primary calls room (r.value_inside calls room)) (primary calls end room (value_inside calls end room)) (primary_rule (value_inside_rule calls room))
    (primary_is calls end room (r.value_inside calls room) (value_inside calls end room) (value_inside_rule calls room) (value_inside_is calls end room)) 6

pub value_exact : (calls : Bool) (room : ℕ) (symbols : List code.Symbol) (n : ℕ) → n ≤ length symbols
    → v.value calls (length symbols) room (drop n (map seen symbols)) ≡ mapped (value_draft n) (r.read_value calls room (drop n (map seen symbols)))
value_exact calls room symbols n le =
    value_is calls (length symbols) room (drop n (map seen symbols)) (no_longer symbols n)
    ∙ ap (λ at. mapped (value_draft at) (r.read_value calls room (drop n (map seen symbols)))) (at_number symbols n le)
