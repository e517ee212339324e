-- The steps by which the parts that can have instances are found.
use Rattle.std.proofs.Common.{◌≡◌, ℕ, suc, ◌+◌, Bool, true, false, if◌then◌else◌, List, [], ◌∷◌, ◌++◌, ℤ, map, Option, Some, None, refl, sym, ap, ◌∙◌, arith}
use Rattle.std.specs.Prelude.{slice_get, option_map}
use Rattle.std.proofs.lemmas.Option.{slice_get-map}
use Rattle.affc_ast.specs.Trace.{Assignment}
use Rattle.affc_trace.specs.declared.schedule.TimeMap.{TimeMap}
use Rattle.affc_trace.proofs.LastStores.{append_nil}
use Rattle.affc_domain.specs.Rounds.{Round}
use Rattle.affc_domain.proofs.Lists.{to_mapped}
use Rattle.affc_nest.specs.declared.nest.Entry.{Entry}
use Rattle.affc_nest.specs.Sites.{Place, place, places, all_around, all_assigned}
use Rattle.affc_nest.specs.declared.sites.Site.{Site}
use Rattle.affc_loops.specs.Loops.{Scheduled, scheduled_from}
use Rattle.affc_scan.specs.declared.alive.Alive.{Alive}
use Rattle.affc_scan.specs.Alive.{numbered, as_scheduled}
use Rattle.affc_scan.specs.Numbered.{box_of, Numbered, scheduled_in, if_alive, numbered_in}

abbrev alone : Place → Entry → TimeMap → Bool → List Numbered
alone p e m alive = (if alive then record { place = p; entry = e; times = m } ∷ [] else [])

-- ---- As scheduled statements

pub all_numbered : (ps : List Alive) → map as_scheduled ps ≡ map scheduled_in (map numbered ps)
all_numbered [] = refl
all_numbered (p ∷ ps) = ap (λ l. as_scheduled p ∷ l) (all_numbered ps)

-- these are the entries of a list from number k on
abbrev pub From : {A : Type 0} → (k : ℕ) → (whole xs : List A) → Type 0
From k whole xs = (i : ℕ) → slice_get whole (k + i) ≡ slice_get xs i

pub whole_from : {A : Type 0} (xs : List A) → From 0 xs xs
whole_from xs i = ap (slice_get xs) (no_first i)
  where
    no_first : (i : ℕ) → 0 + i ≡ i
    no_first i = omega arith

one_on : (k i : ℕ) → suc k + i ≡ k + suc i
one_on k i = omega arith

at_first : (k : ℕ) → k + 0 ≡ k
at_first k = omega arith

rest_from : {A : Type 0} (k : ℕ) (whole : List A) (x : A) (xs : List A) → From k whole (x ∷ xs) → From (suc k) whole xs
rest_from k whole x xs h i = ap (slice_get whole) (one_on k i) ∙ h (suc i)

none_from : {A : Type 0} (k : ℕ) (whole : List A) → From k whole [] → From (suc k) whole []
none_from k whole h i = ap (slice_get whole) (one_on k i) ∙ h (suc i)

-- each entry is of the statement of its number
abbrev pub Stand : (k : ℕ) → List Entry → Type 0
Stand k es = (j : ℕ) (e : Entry) → slice_get es j ≡ Some e → e.statement ≡ k + j

here_is : (k : ℕ) (e : Entry) (es : List Entry) → Stand k (e ∷ es) → e.statement ≡ k
here_is k e es h = h 0 e refl ∙ at_first k

rest_stand : (k : ℕ) (e : Entry) (es : List Entry) → Stand k (e ∷ es) → Stand (suc k) es
rest_stand k e es h j x there = h (suc j) x there ∙ sym (one_on k j)

found_here : {A : Type 0} (k : ℕ) (whole xs : List A) (e : Entry) (es : List Entry) → From k whole xs → Stand k (e ∷ es) → slice_get whole e.statement ≡ slice_get xs 0
found_here k whole xs e es f h = ap (slice_get whole) (here_is k e es h ∙ sym (at_first k)) ∙ f 0

no_place : (e : Entry) (o : Option TimeMap) → if_alive None e o ≡ []
no_place e (Some m) = refl
no_place e None = refl

no_times : (o : Option Place) (e : Entry) → if_alive o e None ≡ []
no_times (Some p) e = refl
no_times None e = refl

one_or_none : (k : ℕ) (p : Place) (ps : List Place) (e : Entry) (es : List Entry) (m : TimeMap) (ms : List TimeMap) (rest : List Numbered) (alive : Bool) → e.statement ≡ k
    → map scheduled_in rest ≡ scheduled_from (suc k) (all_around ps) (all_assigned ps) ms (map box_of es)
    → map scheduled_in (alone p e m alive ++ rest) ≡ scheduled_from k (p.around ∷ all_around ps) (p.assignment ∷ all_assigned ps) (m ∷ ms) ((if alive then Some e.ranges else None) ∷ map box_of es)
one_or_none k p ps e es m ms rest true own h =
    ap (λ l. scheduled_in (record { place = p; entry = e; times = m }) ∷ l) h
    ∙ ap (λ (s : ℕ). let x : Scheduled = record { statement = s; around = p.around; assignment = p.assignment; times = m; ranges = e.ranges } in x ∷ scheduled_from (suc k) (all_around ps) (all_assigned ps) ms (map box_of es)) own
one_or_none k p ps e es m ms rest false own h = h

-- nothing is scheduled without times
none_timed : (k : ℕ) (rss : List (List Round)) (as' : List Assignment) (bs : List (Option (List (ℤ × ℤ)))) → scheduled_from k rss as' [] bs ≡ []
none_timed k [] as' bs = refl
none_timed k (rs ∷ rss) [] bs = refl
none_timed k (rs ∷ rss) (a ∷ as') bs = refl

module _ (places : List Place) (maps : List TimeMap) where
  skipped : (e : Entry) (es : List Entry) → if_alive (slice_get places e.statement) e (slice_get maps e.statement) ≡ [] → map scheduled_in (numbered_in places maps (e ∷ es)) ≡ map scheduled_in (numbered_in places maps es)
  skipped e es h = ap (λ l. map scheduled_in (l ++ numbered_in places maps es)) h

  without_place : (k : ℕ) (e : Entry) (es : List Entry) → From k places [] → Stand k (e ∷ es) → if_alive (slice_get places e.statement) e (slice_get maps e.statement) ≡ []
  without_place k e es f h = ap (λ o. if_alive o e (slice_get maps e.statement)) (found_here k places [] e es f h) ∙ no_place e (slice_get maps e.statement)

  without_times : (k : ℕ) (e : Entry) (es : List Entry) → From k maps [] → Stand k (e ∷ es) → if_alive (slice_get places e.statement) e (slice_get maps e.statement) ≡ []
  without_times k e es g h = ap (if_alive (slice_get places e.statement) e) (found_here k maps [] e es g h) ∙ no_times (slice_get places e.statement) e

  pub walk_scheduled : (k : ℕ) (ps : List Place) (ms : List TimeMap) (es : List Entry) → From k places ps → From k maps ms → Stand k es
      → map scheduled_in (numbered_in places maps es) ≡ scheduled_from k (all_around ps) (all_assigned ps) ms (map box_of es)
  walk_scheduled k [] ms [] f g h = refl
  walk_scheduled k (p ∷ ps) [] [] f g h = refl
  walk_scheduled k (p ∷ ps) (m ∷ ms) [] f g h = refl
  walk_scheduled k [] [] (e ∷ es) f g h =
      skipped e es (without_place k e es f h) ∙ walk_scheduled (suc k) [] [] es (none_from k places f) (none_from k maps g) (rest_stand k e es h)
  walk_scheduled k [] (m ∷ ms) (e ∷ es) f g h =
      skipped e es (without_place k e es f h) ∙ walk_scheduled (suc k) [] ms es (none_from k places f) (rest_from k maps m ms g) (rest_stand k e es h)
  walk_scheduled k (p ∷ ps) [] (e ∷ es) f g h =
      skipped e es (without_times k e es g h) ∙ walk_scheduled (suc k) ps [] es (rest_from k places p ps f) (none_from k maps g) (rest_stand k e es h)
      ∙ none_timed (suc k) (all_around ps) (all_assigned ps) (map box_of es)
  walk_scheduled k (p ∷ ps) (m ∷ ms) (e ∷ es) f g h =
      ap (λ o. map scheduled_in (if_alive o e (slice_get maps e.statement) ++ numbered_in places maps es)) (found_here k places (p ∷ ps) e es f h)
      ∙ ap (λ o. map scheduled_in (if_alive (Some p) e o ++ numbered_in places maps es)) (found_here k maps (m ∷ ms) e es g h)
      ∙ one_or_none k p ps e es m ms (numbered_in places maps es) e.alive (here_is k e es h)
      (walk_scheduled (suc k) ps ms es (rest_from k places p ps f) (rest_from k maps m ms g) (rest_stand k e es h))

-- ---- One entry

pub dead_left : (made : List Numbered) (o : Option Place) (e : Entry) (q : Option TimeMap) → e.alive ≡ false → made ≡ made ++ if_alive o e q
dead_left made o e q h = sym (append_nil made) ∙ ap (λ l. made ++ l) (sym (dead o q))
  where
    dead : (o : Option Place) (q : Option TimeMap) → if_alive o e q ≡ []
    dead (Some p) (Some m) = ap (alone p e m) h
    dead (Some p) None = refl
    dead None q = refl

pub site_missing : (made : List Numbered) (sites : List Site) (e : Entry) (q : Option TimeMap) → slice_get sites e.statement ≡ None → made ≡ made ++ if_alive (slice_get (places sites) e.statement) e q
site_missing made sites e q h =
    sym (append_nil made) ∙ ap (λ o. made ++ if_alive o e q) (sym (slice_get-map place sites e.statement ∙ ap (option_map place) h))

pub times_missing : (made : List Numbered) (o : Option Place) (e : Entry) (maps : List TimeMap) → slice_get maps e.statement ≡ None → made ≡ made ++ if_alive o e (slice_get maps e.statement)
times_missing made o e maps h = sym (append_nil made) ∙ ap (λ l. made ++ l) (sym (no_times o e)) ∙ ap (λ q. made ++ if_alive o e q) (sym h)

pub part_added : (made : List Numbered) (sites : List Site) (s : Site) (e : Entry) (maps : List TimeMap) (m : TimeMap) → e.alive ≡ true → slice_get sites e.statement ≡ Some s → slice_get maps e.statement ≡ Some m
    → made ++ record { place = place s; entry = e; times = m } ∷ [] ≡ made ++ if_alive (slice_get (places sites) e.statement) e (slice_get maps e.statement)
part_added made sites s e maps m h f g =
    ap (λ (b : Bool). made ++ alone (place s) e m b) (sym h) ∙ ap (λ o. made ++ if_alive o e (Some m)) (sym (to_mapped place sites e.statement s f))
    ∙ ap (λ q. made ++ if_alive (slice_get (places sites) e.statement) e q) (sym g)
