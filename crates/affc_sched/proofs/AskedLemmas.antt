-- Which questions are asked.
use Rattle.std.proofs.Common.{◌≡◌, ℕ, IsTrue, List, [], ◌∷◌, map, flat_map, refl, sym, ap, subst, ◌∙◌, inl, inr}
use Rattle.std.specs.List.{All}
use Rattle.affc_system.specs.Systems.{Rows}
use Rattle.affc_trace.specs.declared.schedule.Schedule.{Schedule}
use Rattle.affc_trace.specs.declared.schedule.Schedule.TheVariants.{Time}
use Rattle.affc_trace.specs.declared.schedule.TimeMap.{TimeMap}
use Rattle.affc_trace.specs.Law.{IsIn}
use Rattle.affc_trace.proofs.Members.{in_map, to_map, to_flat_map}
use Rattle.affc_trace.proofs.Once.{in_flat_map}
use Rattle.affc_domain.proofs.Lists.{in_if, to_if}
use Rattle.affc_nest.specs.declared.nest.Entry.{Entry}
use Rattle.affc_nest.specs.declared.nest.Nest.{Nest}
use Rattle.affc_order.specs.Systems.{source_systems, turned_systems}
use Rattle.affc_products.proofs.ProductLemmas.{flat_after}
use Rattle.affc_sched.specs.Pairs.{IsPair, asked_of, use_at, uses_at}
use Rattle.affc_sched.specs.Questions.{Question, Touch, touches, may_depend, pair_rows, question, pair_questions, Use, uses_of, uses, pair_of, pairs, questions_on, legality_questions}
use Rattle.affc_sched.specs.Touched.{IsTouched}
use Rattle.affc_sched.specs.declared.pairs.Pair.{Pair}
use Rattle.affc_sched.proofs.Lists.{all_from}
use Rattle.affc_sched.proofs.TouchLemmas.{touch_in}

-- the entries, accesses and systems of a question
pub record Asked (nest : Nest) (schedule : Schedule) (q : Question) : Type 0 where
  pub first : Entry
  pub first_in : IsIn first nest.entries
  pub first_alive : IsTrue first.alive
  pub from_touch : Touch
  pub from_in : IsIn from_touch (touches first.accesses)
  pub second : Entry
  pub second_in : IsIn second nest.entries
  pub second_alive : IsTrue second.alive
  pub to_touch : Touch
  pub to_in : IsIn to_touch (touches second.accesses)
  pub may : IsTrue (may_depend from_touch to_touch)
  pub earlier : Rows
  pub earlier_in : IsIn earlier (source_systems nest first.part second.part)
  pub later : Rows
  pub later_in : IsIn later (turned_systems nest first.part second.part schedule)
  pub is : q ≡ question nest first second (pair_rows nest first second from_touch.0 to_touch.0) earlier later

-- ---- Pairs

-- an access of a living statement
record IsUsed (nest : Nest) (e : Entry) (x : Touch) : Type 0 where
  there : IsIn e nest.entries
  alive : IsTrue e.alive
  among : IsIn x (touches e.accesses)

record IsPaired (nest : Nest) (p : Use × Use) : Type 0 where
  first : IsUsed nest p.0.0 p.0.1
  second : IsUsed nest p.1.0 p.1.1
  may : IsTrue (may_depend p.0.1 p.1.1)

is_used : (nest : Nest) (u : Use) → IsIn u (uses nest) → IsUsed nest u.0 u.1
is_used nest u i =
    let a = in_flat_map uses_of nest.entries u i in
    let e : Entry = a.0 in
    let w = in_if e.alive (map {B = Use} (λ x. (e, x)) (touches e.accesses)) u a.2 in
    let m = in_map {B = Use} (λ x. (e, x)) (touches e.accesses) u w.1 in
    subst (λ (v : Use). IsUsed nest v.0 v.1) (sym m.2) (record { there = a.1; alive = w.0; among = m.1 })

in_uses : (nest : Nest) (e : Entry) (x : Touch) → IsUsed nest e x → IsIn (e, x) (uses nest)
in_uses nest e x h =
    to_flat_map uses_of nest.entries e (e, x) h.there
    (to_if e.alive (map {B = Use} (λ x. (e, x)) (touches e.accesses)) (e, x) h.alive (to_map {B = Use} (λ x. (e, x)) (touches e.accesses) x h.among))

is_paired : (nest : Nest) (p : Use × Use) → IsIn p (pairs nest) → IsPaired nest p
is_paired nest p i =
    let a = in_flat_map (λ x. flat_map (pair_of x) (uses nest)) (uses nest) p i in
    let b = in_flat_map (pair_of a.0) (uses nest) p a.2 in
    let w = in_if (may_depend a.0.1 b.0.1) ((a.0, b.0) ∷ []) p b.2 in
    let both : IsPaired nest (a.0, b.0) = record { first = is_used nest a.0 a.1; second = is_used nest b.0 b.1; may = w.0 } in
    elim w.1 [ inl e ↦ subst (IsPaired nest) (sym e) both | inr none ↦ absurd none ]

in_pairs : (nest : Nest) (x y : Use) → IsIn x (uses nest) → IsIn y (uses nest) → IsTrue (may_depend x.1 y.1) → IsIn (x, y) (pairs nest)
in_pairs nest x y i j may =
    to_flat_map (λ x. flat_map (pair_of x) (uses nest)) (uses nest) x (x, y) i
    (to_flat_map (pair_of x) (uses nest) y (x, y) j (to_if (may_depend x.1 y.1) ((x, y) ∷ []) (x, y) may (inl refl)))

-- ---- Pairs as code lists them

is_touched : (nest : Nest) (e : Entry) (x : Touch) → IsUsed nest e x → IsTouched nest e x.0
is_touched nest e x h = record { there = h.there; alive = h.alive; among = touch_in e.accesses x h.among }

pub each_pair : (nest : Nest) (ps : List Pair) → map uses_at ps ≡ pairs nest → All (IsPair nest) ps
each_pair nest ps e = all_from (IsPair nest) ps (λ p i.
    let k = is_paired nest (uses_at p) (subst (IsIn (uses_at p)) e (to_map uses_at ps p i)) in
    record { from = is_touched nest p.from.entry.now (use_at p.from).1 k.first; to = is_touched nest p.to.entry.now (use_at p.to).1 k.second })

pub all_asked : (nest : Nest) (schedule : Schedule) (ps : List Pair) → map uses_at ps ≡ pairs nest → flat_map (asked_of nest schedule) ps ≡ flat_map (questions_on nest schedule) (pairs nest)
all_asked nest schedule ps e = sym (flat_after (questions_on nest schedule) uses_at ps) ∙ ap (flat_map (questions_on nest schedule)) e

-- ---- Questions

module _ (nest : Nest) (components : ℕ) (maps : List TimeMap) where
  abbrev schedule : Schedule
  schedule = Time components maps

  pub asked : (q : Question) → IsIn q (legality_questions nest (Time components maps)) → Asked nest (Time components maps) q
  asked q i =
      let a = in_flat_map (questions_on nest (Time components maps)) (pairs nest) q i in
      let p : Use × Use = a.0 in
      let k = is_paired nest p a.1 in
      let rows = pair_rows nest p.0.0 p.1.0 p.0.1.0 p.1.1.0 in
      let second = turned_systems nest p.0.0.part p.1.0.part (Time components maps) in
      let o = in_flat_map (λ earlier. map (question nest p.0.0 p.1.0 rows earlier) second) (source_systems nest p.0.0.part p.1.0.part) q a.2 in
      let u = in_map (question nest p.0.0 p.1.0 rows o.0) second q o.2 in
      record {
        first = p.0.0;
        first_in = k.first.there;
        first_alive = k.first.alive;
        from_touch = p.0.1;
        from_in = k.first.among;
        second = p.1.0;
        second_in = k.second.there;
        second_alive = k.second.alive;
        to_touch = p.1.1;
        to_in = k.second.among;
        may = k.may;
        earlier = o.0;
        earlier_in = o.1;
        later = u.0;
        later_in = u.1;
        is = u.2;
      }

  pub is_asked : (q : Question) → Asked nest (Time components maps) q → IsIn q (legality_questions nest (Time components maps))
  is_asked q k =
      let e : Entry = k.first in
      let v : Entry = k.second in
      let x : Touch = k.from_touch in
      let y : Touch = k.to_touch in
      let rows = pair_rows nest e v x.0 y.0 in
      let second = turned_systems nest e.part v.part (Time components maps) in
      let one : IsIn (question nest e v rows k.earlier k.later) (pair_questions nest e v (Time components maps) x.0 y.0) =
      to_flat_map (λ earlier. map (question nest e v rows earlier) second) (source_systems nest e.part v.part) k.earlier (question nest e v rows k.earlier k.later) k.earlier_in
      (to_map (question nest e v rows k.earlier) second k.later k.later_in) in
      to_flat_map (questions_on nest (Time components maps)) (pairs nest) ((e, x), (v, y)) q
      (in_pairs nest (e, x) (v, y) (in_uses nest e x (record { there = k.first_in; alive = k.first_alive; among = k.from_in })) (in_uses nest v y (record { there = k.second_in; alive = k.second_alive; among = k.to_in })) k.may)
      (subst (λ z. IsIn z (pair_questions nest e v (Time components maps) x.0 y.0)) (sym k.is) one)
