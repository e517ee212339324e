-- The first limit on the shape that is passed is found in one pass.
use Rattle.std.proofs.Common.{◌≡◌, ℕ, suc, ◌+◌, ◌-◌, ◌≤◌, ◌<◌, Bool, true, false, cond, if◌then◌else◌, nat_le, nat_lt, List, [], ◌∷◌, ◌++◌, length, get_or, drop, map, Option, Some, None, refl, sym, ap, ◌∙◌, subst, arith, append_assoc, drop-cons, add-one}
use Rattle.std.specs.Option.{IfSome}
use Rattle.std.proofs.lemmas.Bool.{cond-true, cond-false}
use Rattle.std.proofs.lemmas.Bool.Decides.{nat_tests}
use Rattle.affc_grammar.specs.declared.fault.LimitName.{LimitName}
use Rattle.affc_grammar.specs.declared.fault.LimitName.TheVariants.{Tokens, Run, Depth, Items}
use Rattle.affc_grammar.specs.Grammar.{Symbol}
use Rattle.affc_grammar.specs.Limits.{Passed, passed_at, at_if, nearer, least, tokens_past, count_token, count_run, count_open, count_item, is_separator, is_opening, is_closing, is_item}
use Rattle.affc_limits.specs.declared.shape.Counts.{Counts}
use Rattle.affc_syntax.specs.declared.draft.symbol.Symbol as code
use Rattle.affc_syntax.specs.draft.Symbols.{seen}
use Rattle.affc_limits.specs.Shape.{passed_from, counts_behind, first_above}

-- all of these stand at this token or behind it
abbrev From : ℕ → List Passed → Type 0
From n [] = Unit {0}
From n (p ∷ ps) = (n ≤ p.at) × From n ps

both_from : (n : ℕ) (ps qs : List Passed) → From n ps → From n qs → From n (ps ++ qs)
both_from n [] qs h k = k
both_from n (p ∷ ps) qs h k = (h.0, both_from n ps qs h.1 k)

least_from : (n : ℕ) (ps : List Passed) → From n ps → IfSome (least ps) (λ p. n ≤ p.at)
least_from n [] h = tt
least_from n (p ∷ ps) h = of_rest (least ps) (least_from n ps h.1)
  where
    of_rest : (o : Option Passed) → IfSome o (λ q. n ≤ q.at) → IfSome (nearer p o) (λ q. n ≤ q.at)
    of_rest None k = h.0
    of_rest (Some q) k = either_way (nat_le p.at q.at)
      where
        either_way : (b : Bool) → IfSome (cond b (Some p) (Some q)) (λ q. n ≤ q.at)
        either_way true = h.0
        either_way false = k

nearer_first : (p : Passed) (o : Option Passed) → IfSome o (λ q. p.at ≤ q.at) → nearer p o ≡ Some p
nearer_first p None h = refl
nearer_first p (Some q) h = cond-true (nat_le p.at q.at) (Some p) (Some q) (grind (arith, nat_tests))

-- one before all others, and the first at its place
least_first : (p : Passed) (xs ys : List Passed) → From (suc p.at) xs → From p.at ys → least (xs ++ p ∷ ys) ≡ Some p
least_first p [] ys h k = nearer_first p (least ys) (least_from p.at ys k)
least_first p (x ∷ xs) ys h k =
    let later : suc p.at ≤ x.at = h.0 in
    ap (nearer x) (least_first p xs ys h.1 k) ∙ cond-false (nat_le x.at p.at) (Some x) (Some p) (grind (arith, nat_tests))

weaker : (n m : ℕ) (ps : List Passed) → m ≤ n → From n ps → From m ps
weaker n m [] le h = tt
weaker n m (p ∷ ps) le h = (let here : n ≤ p.at = h.0 in omega arith, weaker n m ps le h.1)

-- the tokens behind which a counter is above its limit, as faults
abbrev faults : LimitName → (ℕ → Symbol → ℕ) → (limit at count : ℕ) → List Symbol → List Passed
faults which next limit at count ss = passed_at which (tokens_past next limit at count ss)

faults_from : (which : LimitName) (next : ℕ → Symbol → ℕ) (limit at count : ℕ) (ss : List Symbol) → From at (faults which next limit at count ss)
faults_from which next limit at count [] = tt
faults_from which next limit at count (s ∷ ss) = here (weaker (at + 1) at _ (omega arith) (faults_from which next limit (at + 1) (next count s) ss)) (nat_lt limit (next count s))
  where
    here : From at (faults which next limit (at + 1) (next count s) ss) → (b : Bool) → From at (passed_at which (at_if b at ++ tokens_past next limit (at + 1) (next count s) ss))
    here rest true = (omega arith, rest)
    here rest false = rest

-- What is passed at one token, by which tests, before what is passed behind it.
abbrev joined : (a b c d : Bool) (at : ℕ) (T R D I : List ℕ) → List Passed
joined a b c d at T R D I = passed_at Tokens (at_if a at ++ T) ++ passed_at Run (at_if b at ++ R) ++ passed_at Depth (at_if c at ++ D) ++ passed_at Items (at_if d at ++ I)

abbrev picked : (a b c d : Bool) → Option LimitName
picked a b c d = if a then Some Tokens else (if b then Some Run else (if c then Some Depth else (if d then Some Items else None)))

none_joined : (a b c d : Bool) (at : ℕ) (T R D I : List ℕ) → picked a b c d ≡ None → joined a b c d at T R D I ≡ passed_at Tokens T ++ passed_at Run R ++ passed_at Depth D ++ passed_at Items I
none_joined true b c d at T R D I e = absurd (cc)
none_joined false true c d at T R D I e = absurd (cc)
none_joined false false true d at T R D I e = absurd (cc)
none_joined false false false true at T R D I e = absurd (cc)
none_joined false false false false at T R D I e = refl

abbrev fault : ℕ → LimitName → Passed
fault at which = record { at = at; which = which }

-- this limit's faults, where one of them may stand at this token
mine : (which : LimitName) (b : Bool) (at : ℕ) (places : List ℕ) → From (suc at) (passed_at which places) → From at (passed_at which (at_if b at ++ places))
mine which true at places h = (omega arith, weaker (suc at) at _ (omega arith) h)
mine which false at places h = weaker (suc at) at _ (omega arith) h

first_joined : (a b c d : Bool) (at : ℕ) (T R D I : List ℕ)
    → From (suc at) (passed_at Tokens T) → From (suc at) (passed_at Run R) → From (suc at) (passed_at Depth D) → From (suc at) (passed_at Items I)
    → (which : LimitName) → picked a b c d ≡ Some which → least (joined a b c d at T R D I) ≡ Some (fault at which)
first_joined true b c d at T R D I t r e i which p =
    let same : Tokens ≡ which = cc in
    least_first (fault at Tokens) [] (passed_at Tokens T ++ passed_at Run (at_if b at ++ R) ++ passed_at Depth (at_if c at ++ D) ++ passed_at Items (at_if d at ++ I)) tt
    (both_from _ _ _ (both_from _ _ _ (both_from _ _ _ (weaker (suc at) at _ (omega arith) t) (mine Run b at R r)) (mine Depth c at D e)) (mine Items d at I i))
    ∙ ap (λ w. Some (fault at w)) same
first_joined false true c d at T R D I t r e i which p =
    let same : Run ≡ which = cc in
    let split : joined false true c d at T R D I ≡ passed_at Tokens T ++ fault at Run ∷ (passed_at Run R ++ (passed_at Depth (at_if c at ++ D) ++ passed_at Items (at_if d at ++ I))) = simp append_assoc in
    ap least split
    ∙ least_first (fault at Run) (passed_at Tokens T) _ t (both_from _ _ _ (weaker (suc at) at _ (omega arith) r) (both_from _ _ _ (mine Depth c at D e) (mine Items d at I i)))
    ∙ ap (λ w. Some (fault at w)) same
first_joined false false true d at T R D I t r e i which p =
    let same : Depth ≡ which = cc in
    let split : joined false false true d at T R D I ≡ (passed_at Tokens T ++ passed_at Run R) ++ fault at Depth ∷ (passed_at Depth D ++ passed_at Items (at_if d at ++ I)) = simp append_assoc in
    ap least split
    ∙ least_first (fault at Depth) (passed_at Tokens T ++ passed_at Run R) _ (both_from _ _ _ t r) (both_from _ _ _ (weaker (suc at) at _ (omega arith) e) (mine Items d at I i))
    ∙ ap (λ w. Some (fault at w)) same
first_joined false false false true at T R D I t r e i which p =
    let same : Items ≡ which = cc in
    least_first (fault at Items) (passed_at Tokens T ++ passed_at Run R ++ passed_at Depth D) (passed_at Items I) (both_from _ _ _ (both_from _ _ _ t r) e) (weaker (suc at) at _ (omega arith) i)
    ∙ ap (λ w. Some (fault at w)) same
first_joined false false false false at T R D I t r e i which p = absurd (cc)

pub next_of : (xs : List code.Symbol) (at : ℕ) (d : code.Symbol) → at < length xs → drop at xs ≡ get_or xs at d ∷ drop (at + 1) xs
next_of xs at d lt = drop-cons xs at d lt ∙ ap (λ n. get_or xs at d ∷ drop n xs) (sym (add-one at))

pub step : (limits : Counts) (at : ℕ) (counts : Counts) (s : Symbol) (ss : List Symbol) → first_above limits (counts_behind counts s) ≡ None
    → passed_from limits at counts (s ∷ ss) ≡ passed_from limits (at + 1) (counts_behind counts s) ss
step limits at counts s ss e = none_joined (nat_lt limits.tokens (count_token counts.tokens s)) (nat_lt limits.run (count_run counts.run s)) (nat_lt limits.brackets (count_open counts.brackets s)) (nat_lt limits.items (count_item counts.items s)) at _ _ _ _ e

pub found : (limits : Counts) (at : ℕ) (counts : Counts) (s : Symbol) (ss : List Symbol) (which : LimitName) → first_above limits (counts_behind counts s) ≡ Some which
    → least (passed_from limits at counts (s ∷ ss)) ≡ Some (fault at which)
found limits at counts s ss which e =
    first_joined (nat_lt limits.tokens (count_token counts.tokens s)) (nat_lt limits.run (count_run counts.run s)) (nat_lt limits.brackets (count_open counts.brackets s)) (nat_lt limits.items (count_item counts.items s)) at _ _ _ _
    (ahead Tokens count_token limits.tokens counts.tokens) (ahead Run count_run limits.run counts.run) (ahead Depth count_open limits.brackets counts.brackets) (ahead Items count_item limits.items counts.items)
    which e
  where
    ahead : (w : LimitName) (next : ℕ → Symbol → ℕ) (limit count : ℕ) → From (suc at) (faults w next limit (at + 1) (next count s) ss)
    ahead w next limit count = weaker (at + 1) (suc at) _ (omega arith) (faults_from w next limit (at + 1) (next count s) ss)

-- In the pass.

pub turn : (limits : Counts) (at : ℕ) (counts next : Counts) (xs : List code.Symbol) (d : code.Symbol) → at < length xs → next ≡ counts_behind counts (seen (get_or xs at d)) → None ≡ first_above limits next
    → passed_from limits at counts (map seen (drop at xs)) ≡ passed_from limits (at + 1) next (map seen (drop (at + 1) xs))
turn limits at counts next xs d lt is e =
    let x = seen (get_or xs at d) in
    ap (λ l. passed_from limits at counts (map seen l)) (next_of xs at d lt)
    ∙ step limits at counts x (map seen (drop (at + 1) xs)) (ap (first_above limits) (sym is) ∙ sym e)
    ∙ ap (λ k. passed_from limits (at + 1) k (map seen (drop (at + 1) xs))) (sym is)

pub stop : (limits : Counts) (at : ℕ) (counts next : Counts) (xs : List code.Symbol) (d : code.Symbol) → at < length xs → next ≡ counts_behind counts (seen (get_or xs at d)) → (which : LimitName) → Some which ≡ first_above limits next
    → least (passed_from limits at counts (map seen (drop at xs))) ≡ Some (fault at which)
stop limits at counts next xs d lt is which e =
    let x = seen (get_or xs at d) in
    ap (λ l. least (passed_from limits at counts (map seen l))) (next_of xs at d lt)
    ∙ found limits at counts x (map seen (drop (at + 1) xs)) which (ap (first_above limits) (sym is) ∙ sym e)

pub record AtMost (n : ℕ) (counts : Counts) : Type 0 where
  pub tokens : counts.tokens ≤ n
  pub run : counts.run ≤ n
  pub brackets : counts.brackets ≤ n
  pub items : counts.items ≤ n

-- no counter grows by more than one
grows_at : (counts : Counts) (s : Symbol) (n : ℕ) → counts.tokens ≤ n → counts.run ≤ n → counts.brackets ≤ n → counts.items ≤ n → (next : Counts) → next ≡ counts_behind counts s → AtMost (n + 1) next
grows_at counts s n a b c d next is = subst (AtMost (n + 1)) (sym is) (record { tokens = omega arith; run = of_run (is_separator s); brackets = of_brackets (is_opening s) (is_closing s); items = of_items (is_item s) })
  where
    of_run : (t : Bool) → (if t then 0 else counts.run + 1) ≤ n + 1
    of_run true = omega arith
    of_run false = omega arith

    of_brackets : (t u : Bool) → (if t then counts.brackets + 1 else (if u then counts.brackets - 1 else counts.brackets)) ≤ n + 1
    of_brackets true u = omega arith
    of_brackets false true = omega arith
    of_brackets false false = omega arith

    of_items : (t : Bool) → (if t then counts.items + 1 else counts.items) ≤ n + 1
    of_items true = omega arith
    of_items false = omega arith

pub grows : (counts next : Counts) (xs : List code.Symbol) (at : ℕ) (d : code.Symbol) (n : ℕ) → next ≡ counts_behind counts (seen (get_or xs at d)) → counts.tokens ≤ n → counts.run ≤ n → counts.brackets ≤ n → counts.items ≤ n → AtMost (n + 1) next
grows counts next xs at d n is a b c e = grows_at counts (seen (get_or xs at d)) n a b c e next is
