-- The trees of all loads, one after the other.
use Rattle.std.proofs.Common.{◌≡◌, ℕ, zero, suc, ◌+◌, ◌-◌, ◌*◌, ◌^◌, ◌<◌, ◌≤◌, ℤ, ◌-ℤ◌, false, true≢false, IsTrue, List, [], ◌∷◌, ◌++◌, length, drop, Some, refl, sym, ap, subst, ◌∙◌, inl, inr, arith}
use Rattle.std.specs.Prelude.{unsigned_abs, slice_get, ◌&&◌, int_le, nat_le, nat_abs}
use Rattle.std.specs.List.{All}
use Rattle.std.proofs.lemmas.Bool.{leb-true}
use Rattle.std.proofs.lemmas.Int.{ints}
use Rattle.std.proofs.lemmas.Option.{same_Some, none-some}
use Rattle.std.proofs.lemmas.List.Elements.{All-append}
use borrow.Author.Differences.{abs_is}
use Rattle.affc_system.specs.Boxes.{InBox}
use Rattle.affc_ast.specs.declared.tree.Instance.{Instance}
use Rattle.affc_ast.specs.declared.tree.Program.{Program}
use Rattle.affc_ast.specs.Store.{Element}
use Rattle.affc_ast.specs.Trace.{trace, loads_of, store_of}
use Rattle.affc_trace.specs.Dataflow.{IsSource}
use Rattle.affc_trace.specs.Law.{IsIn}
use Rattle.affc_trace.proofs.LastStores.{append_nil}
use Rattle.affc_trace.proofs.Runs.{length_append, slice_left}
use Rattle.affc_domain.specs.Accesses.{accesses_of}
use Rattle.affc_domain.specs.Plain.{plain_range, plain_ranges, all_plain, plain_value}
use Rattle.affc_domain.specs.Ranges.{is_near, number_ranges}
use Rattle.affc_domain.specs.Rounds.{loops_in}
use Rattle.affc_domain.proofs.Lists.{both_true, length_map, stands_in, to_mapped}
use Rattle.affc_domain.proofs.PlainLemmas.{assignments_are_plain}
use Rattle.affc_domain.proofs.RangeLemmas.{in_ranges, box_append}
use Rattle.affc_nest.specs.declared.nest.Access.{Access}
use Rattle.affc_nest.specs.declared.nest.Entry.{Entry}
use Rattle.affc_nest.specs.declared.nest.Nest.{Nest}
use Rattle.affc_nest.specs.Laws.{HasNest, IsEntry, element_at}
use Rattle.affc_nest.specs.Nests.{access_form, nest_of}
use Rattle.affc_nest.proofs.EntryLemmas.{site_of, entries_stand, ranges_hold_iterators}
use Rattle.affc_sched.proofs.LegalLemmas.{entry_at, events_are}
use Rattle.affc_sched.proofs.Lists.{all_from}
use Rattle.affc_quast.specs.Limits.{narrow, AreTreesWithin}
use Rattle.affc_quast.specs.Paths.{IsNear}
use Rattle.affc_quast.specs.Sources.{loads_in, loads_before}
use Rattle.affc_quast.specs.Trees.{Tree, Input, named_at, quotients_at}
use Rattle.affc_flow.proofs.FlowLemmas.{load_access}
use Rattle.affc_dataflow.specs.Finds.{NameAll, AreInputs, IsTreeFor, AreTreesOf, AreTreesFrom, AddsTreesFrom}
use Rattle.affc_flow.specs.Laws.{Loads}
use Rattle.affc_flow.specs.Questions.{is_temporary}
use Rattle.affc_dataflow.specs.Searches.{IsRightAt, Covers, Fuel, IsSlightRange, IsLoad}
use Rattle.affc_latest.specs.Stores.{IsNamedNest}
use Rattle.affc_latest.proofs.LastLemmas.{within}
use Rattle.affc_flow.proofs.PathLemmas.{parameters_are, reader_stands}

-- ---- Accesses

few_of : (program : Program) → HasNest program → (k : ℕ) (e : Entry) → IsEntry program k e → length e.accesses ≤ 16
few_of program has k e h =
    let s = site_of program k e h in
    let m = length (number_ranges program.params) in
    let a = s.assignment in
    let plain = (assignments_are_plain program has.plain k s.its_rounds a s.rounds_at s.assignment_at).1 in
    let b = both_true (nat_le (length (accesses_of a)) 16) (all_plain (m + (0 + loops_in s.its_rounds)) a.subs && plain_value a.value (m + (0 + loops_in s.its_rounds))) plain in
    let l : length e.accesses ≡ length (accesses_of a) = ap (λ (x : Entry). length x.accesses) s.is ∙ length_map (access_form (m + loops_in s.its_rounds)) (accesses_of a) in
    let f : length (accesses_of a) ≤ 16 = leb-true (length (accesses_of a)) 16 b.0 in
    subst (λ n. n ≤ 16) (sym l) f

pub few_accesses : (nest : Nest) → IsNamedNest nest → (e : Entry) → IsIn e nest.entries → length e.accesses ≤ 16
few_accesses nest n e i = few_of n.program n.has e.part e (entry_at n.program n.has e (subst (λ (z : Nest). IsIn e z.entries) n.is i))

-- ---- Ranges of parameters and iterators

-- a range whose ends are within 2^40 and not so far apart
record IsShort (k : ℕ) (r : ℤ × ℤ) : Type 0 where
  slight : IsSlightRange r
  gap : unsigned_abs (r.1 -ℤ r.0) < 2 ^ k

gap_of : (l u : ℤ) → unsigned_abs l ≤ 2 ^ 24 → unsigned_abs u ≤ 2 ^ 24 → unsigned_abs (u -ℤ l) < 2 ^ 26
gap_of l u a b = omega (arith, ints, abs_is (u -ℤ l), abs_is u, abs_is l)

gap_of_loop : (l u : ℤ) → unsigned_abs l ≤ 2 ^ 31 → unsigned_abs u ≤ 2 ^ 31 → unsigned_abs (u -ℤ l) < 2 ^ 33
gap_of_loop l u a b = omega (arith, ints, abs_is (u -ℤ l), abs_is u, abs_is l)

near_short : (r : ℤ × ℤ) → IsTrue (is_near r.0 && is_near r.1) → IsShort 33 r
near_short r h =
    let b = both_true (is_near r.0) (is_near r.1) h in
    record {
      slight = (within r.0 (2 ^ 31) (2 ^ 40) b.0 (omega arith), within r.1 (2 ^ 31) (2 ^ 40) b.1 (omega arith));
      gap = gap_of_loop r.0 r.1 (within r.0 (2 ^ 31) (2 ^ 31) b.0 (omega arith)) (within r.1 (2 ^ 31) (2 ^ 31) b.1 (omega arith));
    }

plain_short : (rs : List (ℤ × ℤ)) → IsTrue (plain_ranges rs) → (r : ℤ × ℤ) → IsIn r rs → IsShort 26 r
plain_short [] h r i = absurd i
plain_short (q ∷ rs) h r (inl is) =
    let a = both_true (plain_range q) (plain_ranges rs) h in
    let b = both_true (int_le q.0 q.1) (nat_le (nat_abs q.0) (2 ^ 24) && nat_le (nat_abs q.1) (2 ^ 24)) a.0 in
    let c = both_true (nat_le (nat_abs q.0) (2 ^ 24)) (nat_le (nat_abs q.1) (2 ^ 24)) b.1 in
    subst (IsShort 26) (sym is) (record {
      slight = (within q.0 (2 ^ 24) (2 ^ 40) c.0 (omega arith), within q.1 (2 ^ 24) (2 ^ 40) c.1 (omega arith));
      gap = gap_of q.0 q.1 (within q.0 (2 ^ 24) (2 ^ 24) c.0 (omega arith)) (within q.1 (2 ^ 24) (2 ^ 24) c.1 (omega arith));
    })
plain_short (q ∷ rs) h r (inr i) = plain_short rs (both_true (plain_range q) (plain_ranges rs) h).1 r i

all_fuel : (k : ℕ) (rs ss : List (ℤ × ℤ)) (n : ℕ) → ((r : ℤ × ℤ) → IsIn r rs → IsShort k r) → k * length rs ≤ n → Fuel (n - k * length rs) ss → Fuel n (rs ++ ss)
all_fuel k [] ss n h l f = subst (λ m. Fuel m ss) (whole n k) f
  where
    whole : (n k : ℕ) → n - k * zero ≡ n
    whole n k = omega arith
all_fuel k (r ∷ rs) ss n h l f = (
  k,
  (h r (inl refl)).gap,
  enough k (length rs) n l,
  all_fuel k rs ss (n - k) (λ q i. h q (inr i)) (left k (length rs) n l) (subst (λ m. Fuel m ss) (rest k (length rs) n) f),
)
  where
    enough : (k m n : ℕ) → k * suc m ≤ n → k ≤ n
    enough k m n h = omega (arith, h)

    left : (k m n : ℕ) → k * suc m ≤ n → k * m ≤ n - k
    left k m n h = omega (arith, h)

    rest : (k m n : ℕ) → n - k * suc m ≡ (n - k) - k * m
    rest k m n = omega arith

-- the box of a load of a statement that can have instances
module _ (nest : Nest) (h : IsNamedNest nest) (e : Entry) (i : IsIn e nest.entries) (alive : IsTrue e.alive) (few_params : length nest.params ≤ 4) (few_loops : length e.loops ≤ 6) where
  its_entry : IsEntry h.program e.part e
  its_entry = entry_at h.program h.has e (subst (λ (z : Nest). IsIn e z.entries) h.is i)

  params_short : (r : ℤ × ℤ) → IsIn r nest.params → IsShort 26 r
  params_short r j = plain_short (number_ranges h.program.params) h.has.plain.ranges r (subst (λ (z : Nest). IsIn r z.params) h.is j)

  loops_short : (r : ℤ × ℤ) → IsIn r e.ranges → IsShort 33 r
  loops_short r j = near_short r ((ranges_hold_iterators h.program e.part e h.has its_entry alive).near r j).1

  each_loop : length e.ranges ≡ length e.loops
  each_loop = (ranges_hold_iterators h.program e.part e h.has its_entry alive).each

  pub box_width : (ranges : List (ℤ × ℤ)) → ranges ≡ nest.params ++ e.ranges → length ranges ≡ length nest.params + length e.loops
  box_width ranges r = ap length r ∙ length_append nest.params e.ranges ∙ ap (λ k. length nest.params + k) each_loop

  pub box_slight : (ranges : List (ℤ × ℤ)) → ranges ≡ nest.params ++ e.ranges → All IsSlightRange ranges
  box_slight ranges r =
      subst (All IsSlightRange) (sym r)
      (All-append IsSlightRange nest.params e.ranges (all_from IsSlightRange nest.params (λ q j. (params_short q j).slight)) (all_from IsSlightRange e.ranges (λ q j. (loops_short q j).slight)))

  pub box_fuel : (ranges : List (ℤ × ℤ)) → ranges ≡ nest.params ++ e.ranges → Fuel 302 ranges
  box_fuel ranges r =
      subst (Fuel 302) (sym r)
      (all_fuel 26 nest.params e.ranges 302 params_short (first (length nest.params) few_params)
      (subst (Fuel (302 - 26 * length nest.params)) (append_nil e.ranges)
      (all_fuel 33 e.ranges [] (302 - 26 * length nest.params) loops_short (second (length nest.params) (length e.ranges) (length e.loops) few_params each_loop few_loops) tt)))
    where
      first : (m : ℕ) → m ≤ 4 → 26 * m ≤ 302
      first m h = omega (arith, h)

      second : (m k l : ℕ) → m ≤ 4 → k ≡ l → l ≤ 6 → 33 * k ≤ 302 - 26 * m
      second m k l h e g = omega (arith, h, e, g)

  -- a tree that is right in the box is the load's
  pub box_tree : (x : Access) (ranges : List (ℤ × ℤ)) (tree : Tree) → ranges ≡ nest.params ++ e.ranges → Covers nest e x ranges 302 tree → IsTreeFor nest e x tree
  box_tree x ranges tree r c = record {
    right = λ program p its is loads.
        let own : InBox (nest_of program).params p = in_ranges program.params p loads.context.ranges in
        let loop : InBox e.ranges its = (ranges_hold_iterators program e.part e loads.has loads.entry alive).hold p (record { statement = e.part; iterators = its }) refl loads.context loads.runs in
        c.right program p its is loads
        (subst (λ rs. InBox rs (p ++ its)) (sym (r ∙ ap (λ (n : Nest). n.params ++ e.ranges) is)) (box_append (nest_of program).params e.ranges p its own loop));
    within = c.within;
    none = λ dead. absurd (true≢false (sym alive ∙ dead));
  }

-- the tree of a load of a statement that can have no instances
pub dead_tree : (nest : Nest) (e : Entry) (x : Access) (tree : Tree) → e.alive ≡ false → tree ≡ Input → IsTreeFor nest e x tree
dead_tree nest e x tree dead t = subst (IsTreeFor nest e x) (sym t) (record {
  right = λ program p its is loads. absurd (true≢false (sym (reader_stands program p its e x loads).alive ∙ dead));
  within = record { shaped = tt; stores = tt; fits = tt; short = omega arith; few = omega arith };
  none = λ d. refl;
})

-- ---- Lists of trees

pub no_entries : (nest : Nest) (entries : List Entry) (old new : List Tree) → length entries ≡ 0 → new ≡ old → AddsTreesFrom nest entries old new
no_entries nest [] old new l q = ([], q ∙ sym (append_nil old), refl)
no_entries nest (e ∷ es) old new l q = absurd (omega (arith, l))

trees_long : (nest : Nest) (e : Entry) (xs : List Access) (ts : List Tree) → AreTreesOf nest e xs ts → length ts ≡ length xs - 1
trees_long nest e [] ts h = ap length h
trees_long nest e (x ∷ []) ts h = ap length h
trees_long nest e (x ∷ y ∷ ys) [] h = absurd h
trees_long nest e (x ∷ y ∷ ys) (t ∷ ts) h = let l = trees_long nest e (y ∷ ys) ts h.1 in omega (arith, l)

record TreeAt (nest : Nest) (e : Entry) (x : Access) (ts : List Tree) (k : ℕ) : Type 0 where
  tree : Tree
  there : slice_get ts k ≡ Some tree
  is : IsTreeFor nest e x tree

load_tree : (nest : Nest) (e : Entry) (xs : List Access) (ts : List Tree) (k : ℕ) (x : Access) → AreTreesOf nest e xs ts → slice_get xs k ≡ Some x → k < length xs - 1 → TreeAt nest e x ts k
load_tree nest e [] ts k x h g l = absurd (omega (arith, l))
load_tree nest e (y ∷ []) ts k x h g l = absurd (omega (arith, l))
load_tree nest e (y ∷ z ∷ ys) [] k x h g l = absurd h
load_tree nest e (y ∷ z ∷ ys) (t ∷ ts) zero x h g l = record { tree = t; there = refl; is = subst (λ a. IsTreeFor nest e a t) (same_Some y x g) h.0 }
load_tree nest e (y ∷ z ∷ ys) (t ∷ ts) (suc k) x h g l =
    let r = load_tree nest e (z ∷ ys) ts k x h.1 g (omega (arith, l)) in
    record { tree = r.tree; there = r.there; is = r.is }

behind : {A : Type 0} (xs ys : List A) (n k : ℕ) (a : A) → n ≡ length xs → slice_get ys k ≡ Some a → slice_get (xs ++ ys) (n + k) ≡ Some a
behind {A} xs ys n k a e h = subst (λ m. slice_get (xs ++ ys) (m + k) ≡ Some a) (sym e) (past xs ys k h)
  where
    past : (xs ys : List A) (k : ℕ) → slice_get ys k ≡ Some a → slice_get (xs ++ ys) (length xs + k) ≡ Some a
    past [] ys k h = subst (λ m. slice_get ys m ≡ Some a) (plain k) h
      where
        plain : (k : ℕ) → k ≡ 0 + k
        plain k = omega arith
    past (x ∷ xs) ys k h = subst (λ m. slice_get (x ∷ (xs ++ ys)) m ≡ Some a) (step (length xs) k) (past xs ys k h)
      where
        step : (m k : ℕ) → suc (m + k) ≡ suc m + k
        step m k = omega arith

entry_tree : (nest : Nest) (es : List Entry) (ts : List Tree) (s k : ℕ) (e : Entry) (x : Access) → AreTreesFrom nest es ts → slice_get es s ≡ Some e → slice_get e.accesses k ≡ Some x → k < loads_in e → TreeAt nest e x ts (loads_before es s + k)
entry_tree nest [] ts s k e x h g a l = absurd (none-some e g)
entry_tree nest (c ∷ es) ts zero k e x h g a l =
    let same = same_Some c e g in
    let r = load_tree nest e e.accesses h.0 k x (subst (λ (z : Entry). AreTreesOf nest z z.accesses h.0) same h.3) a l in
    record { tree = r.tree; there = subst (λ us. slice_get us (0 + k) ≡ Some r.tree) (sym h.2) (subst (λ m. slice_get (h.0 ++ h.1) m ≡ Some r.tree) (plain k) (slice_left h.0 h.1 k r.tree r.there)); is = r.is }
  where
    plain : (k : ℕ) → k ≡ 0 + k
    plain k = omega arith
entry_tree nest (c ∷ es) ts (suc s) k e x h g a l =
    let r = entry_tree nest es h.1 s k e x h.4 g a l in
    record {
      tree = r.tree;
      there = subst (λ us. slice_get us ((loads_in c + loads_before es s) + k) ≡ Some r.tree) (sym h.2)
          (subst (λ m. slice_get (h.0 ++ h.1) m ≡ Some r.tree) (moved (loads_in c) (loads_before es s) k) (behind h.0 h.1 (loads_in c) (loads_before es s + k) r.tree (sym (trees_long nest c c.accesses h.0 h.3)) r.there));
      is = r.is;
    }
  where
    moved : (a b c : ℕ) → a + (b + c) ≡ (a + b) + c
    moved a b c = omega arith

all_long : (nest : Nest) (es : List Entry) (ts : List Tree) → AreTreesFrom nest es ts → length ts ≡ loads_before es (length es)
all_long nest [] ts h = ap length h
all_long nest (e ∷ es) ts h =
    ap length h.2 ∙ length_append h.0 h.1 ∙ ap (λ k. k + length h.1) (trees_long nest e e.accesses h.0 h.3) ∙ ap (λ k. loads_in e + k) (all_long nest es h.1 h.4)

-- ---- The trees of all loads

module _ (nest : Nest) (trees : List Tree) (h : AreTreesFrom nest nest.entries trees) where
  pub all_within : AreTreesWithin narrow 302 12 nest trees
  all_within = record {
    each = λ s k e x at less there. let r = entry_tree nest nest.entries trees s k e x h at there less in (r.tree, r.there, r.is.within);
    no_more = all_long nest nest.entries trees h;
  }

  pub all_inputs : AreInputs nest trees
  all_inputs s k e tree at dead less there =
      let a = load_access e k less in
      let r = entry_tree nest nest.entries trees s k e a.0 h at a.1 less in
      sym (same_Some r.tree tree (sym r.there ∙ there)) ∙ r.is.none dead

  pub all_named : NameAll nest trees
  all_named program p is has named inside = record {
    sources = λ s k e at less.
        let a = load_access e k less in
        let r = entry_tree nest nest.entries trees s k e a.0 h at a.1 less in
        (r.tree, r.there, λ b x number runs load. source_at s k e a.0 r.tree at a.1 r.is b x number runs load);
    written = λ s k e x tree b at less there temp tree_at number runs.
        let r = entry_tree nest nest.entries trees s k e x h at there less in
        let same = same_Some r.tree tree (sym r.there ∙ tree_at) in
        subst (λ t. (w : Instance) × (named_at t (p ++ b.iterators) ≡ Some w)) same
        ((right_at s k e x r.tree at there r.is b number runs).source.written (subst (λ n. IsTrue (is_temporary n x.array.0)) is temp));
    near = λ s k e tree at less tree_at b number runs.
        let a = load_access e k less in
        let r = entry_tree nest nest.entries trees s k e a.0 h at a.1 less in
        subst (λ t. All IsNear (quotients_at t (p ++ b.iterators))) (same_Some r.tree tree (sym r.there ∙ tree_at)) (right_at s k e a.0 r.tree at a.1 r.is b number runs).near;
  }
    where
      loads_at : (s k : ℕ) (e : Entry) (x : Access) → slice_get nest.entries s ≡ Some e → slice_get e.accesses k ≡ Some x → (b : Instance) → b.statement ≡ s → IsIn b (trace program p) → Loads program p b.iterators e x
      loads_at s k e x at there b number runs =
          let at' : IsEntry program s e = subst (λ (n : Nest). slice_get n.entries s ≡ Some e) is at in
          let own : e.part ≡ s = ((entries_stand program has).1 s e at').number in
          record {
            has = has;
            named = named;
            context = inside;
            entry = subst (λ k. IsEntry program k e) (sym own) at';
            made = stands_in e.accesses k x there;
            runs = subst (λ i. IsIn i (trace program p)) (λ i. record { statement = (number ∙ sym own) i; iterators = b.iterators }) runs;
          }

      right_at : (s k : ℕ) (e : Entry) (x : Access) (tree : Tree) → slice_get nest.entries s ≡ Some e → slice_get e.accesses k ≡ Some x → IsTreeFor nest e x tree → (b : Instance) → b.statement ≡ s → IsIn b (trace program p)
          → IsRightAt program p b.iterators e x tree
      right_at s k e x tree at there t b number runs = t.right program p b.iterators is (loads_at s k e x at there b number runs)

      source_at : (s k : ℕ) (e : Entry) (a : Access) (tree : Tree) → slice_get nest.entries s ≡ Some e → slice_get e.accesses k ≡ Some a → IsTreeFor nest e a tree → (b : Instance) (x : Element) → b.statement ≡ s → IsIn b (trace program p)
          → slice_get (loads_of program p b) k ≡ Some x → IsSource program p b x (named_at tree (p ++ b.iterators))
      source_at s k e a tree at there t b x number runs load =
          let at' : IsEntry program s e = subst (λ (n : Nest). slice_get n.entries s ≡ Some e) is at in
          let own : e.part ≡ s = ((entries_stand program has).1 s e at').number in
          let same : b ≡ record { statement = e.part; iterators = b.iterators } = λ i. record { statement = (number ∙ sym own) i; iterators = b.iterators } in
          let here : Instance = record { statement = e.part; iterators = b.iterators } in
          let loads = loads_at s k e a at there b number runs in
          let l = parameters_are program p b.iterators e a loads in
          let st = reader_stands program p b.iterators e a loads in
          let element : element_at (p ++ b.iterators) a ≡ x =
          same_Some (element_at (p ++ b.iterators) a) x
          (sym (to_mapped (element_at (p ++ b.iterators)) e.accesses k a there) ∙ ap (λ es. slice_get es k) (events_are program has p l e b.iterators st)
          ∙ slice_left (loads_of program p here) (store_of program p here ∷ []) k x (subst (λ i. slice_get (loads_of program p i) k ≡ Some x) same load)) in
          subst (λ i. IsSource program p i x (named_at tree (p ++ b.iterators))) (sym same)
          (subst (λ x. IsSource program p here x (named_at tree (p ++ b.iterators))) element (right_at s k e a tree at there t b number runs).source.is)

-- ---- What the code goes along

drop_head : (all : List Access) (k : ℕ) (x : Access) (rest : List Access) → x ∷ rest ≡ drop k all → (slice_get all k ≡ Some x) × (rest ≡ drop (k + 1) all) × (length all ≡ suc k + length rest)
drop_head [] zero x rest e = absurd (cc)
drop_head [] (suc k) x rest e = absurd (cc)
drop_head (a ∷ all) zero x rest e = (ap Some (sym (heads x a rest all e)), tails x a rest all e, count (ap length e))
  where
    heads : (x a : Access) (rest all : List Access) → x ∷ rest ≡ a ∷ all → x ≡ a
    heads x a rest all e = cc

    tails : (x a : Access) (rest all : List Access) → x ∷ rest ≡ a ∷ all → rest ≡ all
    tails x a rest all e = cc

    count : suc (length rest) ≡ suc (length all) → suc (length all) ≡ suc zero + length rest
    count e = omega (arith, e)
drop_head (a ∷ all) (suc k) x rest e =
    let r = drop_head all k x rest e in
    (r.0, subst (λ n. rest ≡ drop n (a ∷ all)) (next k) r.1, count r.2)
  where
    next : (k : ℕ) → suc (k + 1) ≡ suc k + 1
    next k = omega arith

    count : length all ≡ suc k + length rest → suc (length all) ≡ suc (suc k) + length rest
    count e = omega (arith, e)

-- a load among the accesses from some number on
pub record LoadThere (e : Entry) (number : ℕ) (x : Access) (rest : List Access) : Type 0 where
  pub there : slice_get e.accesses number ≡ Some x
  pub load : number < loads_in e
  pub others : rest ≡ drop (number + 1) e.accesses

pub load_there : (e : Entry) (number : ℕ) (accesses rest : List Access) (x : Access) → accesses ≡ drop number e.accesses → accesses ≡ x ∷ rest → (length rest ≡ 0 → ⊥) → LoadThere e number x rest
load_there e number accesses rest x a b some =
    let r = drop_head e.accesses number x rest (sym b ∙ a) in
    record { there = r.0; load = below (length e.accesses) (length rest) r.2 some; others = r.1 }
  where
    below : (n m : ℕ) → n ≡ suc number + m → (m ≡ 0 → ⊥) → number < n - 1
    below n zero e h = absurd (h refl)
    below n (suc m) e h = omega (arith, e)

pub is_load : (nest : Nest) (e : Entry) (number : ℕ) (accesses rest : List Access) (x : Access) → IsNamedNest nest → IsIn e nest.entries → accesses ≡ drop number e.accesses → accesses ≡ x ∷ rest → (length rest ≡ 0 → ⊥)
    → IsTrue e.alive → IsLoad nest e x number
is_load nest e number accesses rest x n i a b some alive =
    let r = load_there e number accesses rest x a b some in
    record { nested = n; touched = record { there = i; alive = alive; among = stands_in e.accesses number x r.there }; there = r.there; load = r.load }

pub all_added : (nest : Nest) (entries : List Entry) (old new : List Tree) → entries ≡ nest.entries → old ≡ [] → AddsTreesFrom nest entries old new → AreTreesFrom nest nest.entries new
all_added nest entries old new e o h =
    subst (λ ts. AreTreesFrom nest nest.entries ts) (sym (h.1 ∙ ap (λ ts. ts ++ h.0) o)) (subst (λ es. AreTreesFrom nest es h.0) e h.2)
