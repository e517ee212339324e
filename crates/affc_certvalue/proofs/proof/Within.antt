-- Proofs that have nothing wrong are those within the limits.
use Rattle.affc_certvalue.specs.proof.Limits.{FitsProof, AreNumbered, IsProofWithin}
use Rattle.affc_certvalue.specs.proof.Proofs.{Steps, Refuted, Cut, Split, steps_of}
use Rattle.affc_certvalue.specs.proof.Values.{pair_value, multipliers_value, leaf_node, cut_node, split_node, nodes_of, proof_value}
use Rattle.affc_certvalue.specs.proof.Verdicts.{row_of, is_above, if_whole, order_from, pair, multipliers, most_coefficient, most_constant, proof_node, proof_nodes, proof}
use Rattle.affc_certvalue.proofs.Within.{both_are, small_fine, small_is, between_fine, between_is, word_fine, word_is, all_fine, all_are, list_fine, list_is, len_map, all_weaker, all_both, form_fine, form_is, small_word, small_words, small_fits}
use Rattle.affc_certvalue.specs.Limits.{IsWord, AreSmall, IsSmall}
use Rattle.affc_certvalue.specs.Values.{list_value, whole_value, numbers_value, form_value}
use Rattle.affc_certvalue.specs.Verdicts.{worse, whole, within, any_number, all_of, list, form_entries}
use Rattle.affc_certvalue.specs.declared.verdict.Verdict.{Verdict}
use Rattle.affc_certvalue.specs.declared.verdict.Verdict.TheVariants.{Shape, Number, Fine}
use Rattle.affc_farkas.specs.Multiples.{IsRising, AreMultipliers}
use Rattle.affc_farkas.specs.declared.proof.Proof.{Proof, Leaf, Cut', Split'}
use Rattle.affc_rows.specs.Forms.{Affine}
use Rattle.serde_json.specs.Data.{Data}
use Rattle.serde_json.specs.Events.{items_len}
use Rattle.serde_json.specs.View.{items_of}
use Rattle.std.proofs.Common.{◌≡◌, ℕ, suc, ◌+◌, ◌^◌, ◌<◌, ◌≤◌, ◌&&◌, ℤ, pos, negsuc, ◌-ℤ◌, unsigned_abs, Bool, true, false, List, [], ◌∷◌, ◌++◌, length, map, Option, Some, None, if◌then◌else◌, nat_lt, refl, sym, ap, ap₂, ◌∙◌, arith, lt-ltb, le-ltb, append-nil, append_assoc}
use Rattle.std.proofs.lemmas.Bool.{ltb-true, ltb-false}
use Rattle.std.proofs.lemmas.List.Elements.{All-from_recursion, recursion_from_All}
use Rattle.std.specs.List.{All, AllByRecursion}

-- ---- Multipliers

abbrev IsPair : ℕ × ℕ → Type 0
IsPair p = (p.0 < 2 ^ 32) × (1 ≤ p.1) × (p.1 ≤ 2 ^ 53)

pair_fine : (p : ℕ × ℕ) → IsPair p → pair (pair_value p) ≡ Fine
pair_fine p h = ap₂ (λ x y. worse x (worse y Fine)) (between_fine 0 4294967295 p.0 (omega arith) (omega arith) (omega (arith, h.0))) (between_fine 1 9007199254740992 p.1 (omega arith) h.1 (omega (arith, h.2)))

pair_is : (p : ℕ × ℕ) → pair (pair_value p) ≡ Fine → IsPair p
pair_is p e =
    let row = whole (pos 0) (pos 4294967295) (whole_value (pos p.0)) in
    let times = whole (pos 1) (pos 9007199254740992) (whole_value (pos p.1)) in
    let two = both_are row (worse times Fine) e in
    let first = between_is 0 4294967295 p.0 two.0 in
    let second = between_is 1 9007199254740992 p.1 (both_are times Fine two.1).0 in
    (omega (arith, first.1), second.0, omega (arith, second.1))

row_is : (p : ℕ × ℕ) → p.0 < 2 ^ 32 → row_of (pair_value p) ≡ Some (pos p.0)
row_is p h = rw (lt-ltb p.0 (2 ^ 63) (omega (arith, h))) refl

-- ---- Rising numbers

abbrev Below : Option ℤ → ℕ → Type 0
Below None n = Unit {0}
Below (Some (pos m)) n = m < n
Below (Some (negsuc m)) n = Unit {0}

above_fine : (last : Option ℤ) (n : ℕ) → Below last n → is_above last (pos n) ≡ true
above_fine None n h = refl
above_fine (Some (pos m)) n h = lt-ltb m n h
above_fine (Some (negsuc m)) n h = refl

above_is : (last : Option ℤ) (n : ℕ) → is_above last (pos n) ≡ true → Below last n
above_is None n e = tt
above_is (Some (pos m)) n e = ltb-true m n e
above_is (Some (negsuc m)) n e = tt

-- each number is above the one before it
abbrev Follow : Option ℤ → List (ℕ × ℕ) → Type 0
Follow last [] = Unit {0}
Follow last (p ∷ ps) = Below last p.0 × Follow (Some (pos p.0)) ps

follows : (last : Option ℤ) (p : ℕ × ℕ) (ps : List (ℕ × ℕ)) → Below last p.0 → AllByRecursion (λ q. p.0 < q.0) ps → IsRising ps → Follow last (p ∷ ps)
follows last p [] b h r = (b, tt)
follows last p (q ∷ ps) b h r = (b, follows (Some (pos p.0)) q ps h.0 (recursion_from_All (λ s. q.0 < s.0) ps r.0) r.1)

follow : (by : List (ℕ × ℕ)) → IsRising by → Follow None by
follow [] r = tt
follow (p ∷ ps) r = follows None p ps tt (recursion_from_All (λ q. p.0 < q.0) ps r.0) r.1

above : (n : ℕ) (ps : List (ℕ × ℕ)) (m : ℕ) → m < n → AllByRecursion (λ q. n < q.0) ps → AllByRecursion (λ q. m < q.0) ps
above n [] m h a = tt
above n (q ∷ ps) m h a = (omega (arith, h, a.0), above n ps m h a.1)

all_above : (n : ℕ) (ps : List (ℕ × ℕ)) → Follow (Some (pos n)) ps → AllByRecursion (λ q. n < q.0) ps
all_above n [] f = tt
all_above n (q ∷ ps) f = (f.0, above q.0 ps n f.0 (all_above q.0 ps f.1))

rising : (last : Option ℤ) (by : List (ℕ × ℕ)) → Follow last by → IsRising by
rising last [] f = tt
rising last (p ∷ ps) f = (All-from_recursion (λ q. p.0 < q.0) ps (all_above p.0 ps f.1), rising (Some (pos p.0)) ps f.1)

order_fine : (last : Option ℤ) (by : List (ℕ × ℕ)) → AllByRecursion IsPair by → Follow last by → order_from last true (items_of (map pair_value by)) ≡ Fine
order_fine last [] h f = refl
order_fine last (p ∷ ps) h f = rw (row_is p h.0.0, above_fine last p.0 f.0) (order_fine (Some (pos p.0)) ps h.1 f.1)

flag : (b : Bool) → (if b then Fine else Shape) ≡ Fine → b ≡ true
flag true e = refl
flag false e = absurd (cc)

abbrev AreTrue : Bool → Bool → Type 0
AreTrue a b = (a ≡ true) × (b ≡ true)

both_true : (a b : Bool) → (a && b) ≡ true → AreTrue a b
both_true true b e = (refl, e)
both_true false b e = absurd (cc)

abbrev IsOrdered : Option ℤ → Bool → List (ℕ × ℕ) → Type 0
IsOrdered last rises by = (rises ≡ true) × Follow last by

order_is : (last : Option ℤ) (rises : Bool) (by : List (ℕ × ℕ)) → AllByRecursion IsPair by → order_from last rises (items_of (map pair_value by)) ≡ Fine → IsOrdered last rises by
order_is last rises [] h e = (flag rises e, tt)
order_is last rises (p ∷ ps) h e =
    let here = is_above last (pos p.0) in
    let behind = ap (λ o. if_whole o (λ z. order_from (Some z) (rises && is_above last z) (items_of (map pair_value ps)))) (sym (row_is p h.0.0)) ∙ e in
    let rest = order_is (Some (pos p.0)) (rises && here) ps h.1 behind in
    let flags = both_true rises here rest.0 in
    (flags.0, (above_is last p.0 flags.1, rest.1))

-- ---- Lists of multipliers

pairs_of : (by : List (ℕ × ℕ)) → AreNumbered by → AllByRecursion IsPair by
pairs_of by h = recursion_from_All IsPair by (λ k d less. (h.numbers k d less, h.multipliers.positive k d less, h.multipliers.small k d less))

multipliers_fine : (by : List (ℕ × ℕ)) → AreNumbered by → multipliers (items_of (map pair_value by)) ≡ Fine
multipliers_fine by h =
    rw (len_map pair_value by, le-ltb 1024 (length by) h.multipliers.few)
    (ap₂ worse (order_fine None by (pairs_of by h) (follow by h.multipliers.rising)) (all_fine pair pair_value IsPair pair_fine by (pairs_of by h)))

abbrev IsFew : Bool → Verdict → Type 0
IsFew b v = (b ≡ false) × (v ≡ Fine)

few_is : (b : Bool) (v : Verdict) → (if b then Shape else v) ≡ Fine → IsFew b v
few_is true v e = absurd (cc)
few_is false v e = (refl, e)

multipliers_are : (by : List (ℕ × ℕ)) → multipliers (items_of (map pair_value by)) ≡ Fine → AreNumbered by
multipliers_are by e =
    let found = few_is (nat_lt 1024 (items_len (items_of (map pair_value by)))) _ e in
    let two = both_are (order_from None true (items_of (map pair_value by))) (all_of pair (items_of (map pair_value by))) found.1 in
    let pairs = all_are pair pair_value IsPair pair_is by two.1 in
    let all = All-from_recursion IsPair by pairs in
    let ordered = order_is None true by pairs two.0 in
    let long = ltb-false 1024 (items_len (items_of (map pair_value by))) found.0 in
    let few : length by ≤ 1024 = omega (arith, long, len_map pair_value by) in
    record {
      multipliers = record { few = few; positive = λ k d less. (all k d less).1; small = λ k d less. (all k d less).2; rising = rising None by ordered.1 };
      numbers = λ k d less. (all k d less).0;
    }

-- ---- Nodes

leaf_fine : (by : List (ℕ × ℕ)) → AreNumbered by → list proof_node (leaf_node by) ≡ Fine
leaf_fine by h = ap (λ x. worse x Fine) (multipliers_fine by h)

leaf_is : (by : List (ℕ × ℕ)) → list proof_node (leaf_node by) ≡ Fine → AreNumbered by
leaf_is by e = multipliers_are by (both_are (multipliers (items_of (map pair_value by))) Fine e).0

cut_fine : (by : List (ℕ × ℕ)) (g : ℤ) (row : Affine) → AreNumbered by → IsWord g → IsSmall (2 ^ 40) (2 ^ 60) row → list proof_node (cut_node by g row) ≡ Fine
cut_fine by g row h k s = ap₂ worse (multipliers_fine by h) (ap₂ (λ x y. worse x (worse y Fine)) (word_fine g k) (form_fine 1099511627776 1152921504606846976 row (omega arith) (omega arith) s))

abbrev IsCutWithin : List (ℕ × ℕ) → ℤ → Affine → Type 0
IsCutWithin by g row = AreNumbered by × IsWord g × IsSmall (2 ^ 40) (2 ^ 60) row

cut_is : (by : List (ℕ × ℕ)) (g : ℤ) (row : Affine) → list proof_node (cut_node by g row) ≡ Fine → IsCutWithin by g row
cut_is by g row e =
    let form = list (form_entries most_coefficient most_constant) (form_value row) in
    let two = both_are (multipliers (items_of (map pair_value by))) (worse (any_number (whole_value g)) (worse form Fine)) e in
    let rest = both_are (any_number (whole_value g)) (worse form Fine) two.1 in
    let last = both_are form Fine rest.1 in
    (multipliers_are by two.0, word_is g rest.0, form_is 1099511627776 1152921504606846976 row last.0)

split_fine : (cs : List ℤ) (at : ℤ) → AreSmall (2 ^ 40) cs → unsigned_abs at ≤ 2 ^ 60 → list proof_node (split_node cs at) ≡ Fine
split_fine cs at s e =
    ap₂ (λ x y. worse x (worse y Fine)) (list_fine (within most_coefficient) whole_value (λ c. unsigned_abs c ≤ 2 ^ 40) (λ c h. small_fine 1099511627776 c (omega arith) h) cs s)
    (small_fine 1152921504606846976 at (omega arith) e)

abbrev IsSplitWithin : List ℤ → ℤ → Type 0
IsSplitWithin cs at = AreSmall (2 ^ 40) cs × (unsigned_abs at ≤ 2 ^ 60)

split_is : (cs : List ℤ) (at : ℤ) → list proof_node (split_node cs at) ≡ Fine → IsSplitWithin cs at
split_is cs at e =
    let coefs = list (all_of (within most_coefficient)) (numbers_value cs) in
    let two = both_are coefs (worse (within most_constant (whole_value at)) Fine) e in
    let last = both_are (within most_constant (whole_value at)) Fine two.1 in
    (list_is (within most_coefficient) whole_value (λ c. unsigned_abs c ≤ 2 ^ 40) (λ c h. small_is 1099511627776 c h) cs two.0, small_is 1152921504606846976 at last.0)

-- ---- Proofs

-- the nodes of a proof within the limits take one of the proofs that have to come
nodes_fine : (p : Steps) → IsProofWithin p → (n : ℕ) (more : List Data) → proof_nodes (suc n) (items_of (nodes_of p ++ more)) ≡ proof_nodes n (items_of more)
nodes_fine (Refuted by) h n more =
    let none : n + 0 ≡ n = omega arith in
    ap₂ (λ x m. worse x (proof_nodes m (items_of more))) (leaf_fine by h) none
nodes_fine (Cut by g row rest) h n more =
    let one : n + 1 ≡ suc n = omega arith in
    ap₂ (λ x m. worse x (proof_nodes m (items_of (nodes_of rest ++ more)))) (cut_fine by g row h.0 h.1 h.2) one ∙ nodes_fine rest h.3 n more
nodes_fine (Split cs at low high) h n more =
    let two : n + 2 ≡ suc (suc n) = omega arith in
    ap₂ (λ x m. worse x (proof_nodes m (items_of ((nodes_of low ++ nodes_of high) ++ more)))) (split_fine cs at h.0 h.1) two
    ∙ ap (λ ds. proof_nodes (suc (suc n)) (items_of ds)) (append_assoc (nodes_of low) (nodes_of high) more)
    ∙ nodes_fine low h.2 (suc n) (nodes_of high ++ more) ∙ nodes_fine high h.3 n more

pub proof_fine : (p : Steps) → IsProofWithin p → proof (proof_value p) ≡ Fine
proof_fine p h = ap (λ ds. proof_nodes 1 (items_of ds)) (sym (append-nil (nodes_of p))) ∙ nodes_fine p h 0 []

abbrev IsFound : Steps → ℕ → List Data → Type 0
IsFound p n more = IsProofWithin p × (proof_nodes n (items_of more) ≡ Fine)

nodes_are : (p : Steps) (n : ℕ) (more : List Data) → proof_nodes (suc n) (items_of (nodes_of p ++ more)) ≡ Fine → IsFound p n more
nodes_are (Refuted by) n more e =
    let none : n ≡ n + 0 = omega arith in
    let two = both_are (list proof_node (leaf_node by)) (proof_nodes (n + 0) (items_of more)) e in
    (leaf_is by two.0, ap (λ m. proof_nodes m (items_of more)) none ∙ two.1)
nodes_are (Cut by g row rest) n more e =
    let one : suc n ≡ n + 1 = omega arith in
    let two = both_are (list proof_node (cut_node by g row)) (proof_nodes (n + 1) (items_of (nodes_of rest ++ more))) e in
    let cut = cut_is by g row two.0 in
    let below = nodes_are rest n more (ap (λ m. proof_nodes m (items_of (nodes_of rest ++ more))) one ∙ two.1) in
    ((cut.0, cut.1, cut.2, below.0), below.1)
nodes_are (Split cs at low high) n more e =
    let next : suc (suc n) ≡ n + 2 = omega arith in
    let two = both_are (list proof_node (split_node cs at)) (proof_nodes (n + 2) (items_of ((nodes_of low ++ nodes_of high) ++ more))) e in
    let split = split_is cs at two.0 in
    let behind = ap₂ (λ m ds. proof_nodes m (items_of ds)) next (sym (append_assoc (nodes_of low) (nodes_of high) more)) ∙ two.1 in
    let first = nodes_are low (suc n) (nodes_of high ++ more) behind in
    let second = nodes_are high n more first.1 in
    ((split.0, split.1, first.0, second.0), second.1)

pub proof_is : (p : Steps) → proof (proof_value p) ≡ Fine → IsProofWithin p
proof_is p e = (nodes_are p 0 [] (ap (λ ds. proof_nodes 1 (items_of ds)) (append-nil (nodes_of p)) ∙ e)).0

-- ---- Their numbers fit 64 bits

pub proof_fits : (p : Proof) → IsProofWithin (steps_of p) → FitsProof p
proof_fits (Leaf by) h = tt
proof_fits (Cut' by g row q rest) h = (small_fits 1099511627776 1152921504606846976 row (omega arith) (omega arith) h.2, proof_fits rest h.3)
proof_fits (Split' form at q low r high) h =
    (small_words 1099511627776 form.coefs (omega arith) h.0, small_word 1152921504606846976 (at -ℤ form.constant) (omega arith) h.1, proof_fits low h.2, proof_fits high h.3)
