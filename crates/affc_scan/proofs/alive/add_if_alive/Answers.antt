use Rattle.std.proofs.Common.{rules, ◌≡◌, ◌∙◌, ap, map, slice_get, length, true, refl}
use Rattle.std.proofs.lemmas.Option.{slice_get_read, slice_get_past}
use Rattle.std.proofs.lemmas.List.{map-append}
use Rattle.affc_nest.specs.Sites.{places}
use Rattle.affc_scan.specs.Alive.{numbered}
use Rattle.affc_scan.proofs.AliveSteps.{site_missing, times_missing, part_added}
use Rattle.affc_scan.proofs.alive.add_if_alive.Goals as goal

pub returns-in_default : goal.returns-in_default
returns-in_default c =
    let a = c.args in
    let none = slice_get_past a.sites.now a.entry.now.statement c.in_default.ensures.lookup.3 in
    site_missing (map numbered a.out.now.items) a.sites.now a.entry.now (slice_get a.maps.now a.entry.now.statement) none

pub returns-in_default-get : goal.returns-in_default-get
returns-in_default-get c =
    let a = c.args in
    let none = slice_get_past a.maps.now a.entry.now.statement c.in_default-get.ensures.lookup.3 in
    times_missing (map numbered a.out.now.items) (slice_get (places a.sites.now) a.entry.now.statement) a.entry.now a.maps.now none

pub returns : goal.returns
returns c =
    let a = c.args in
    let h = c.in-Some.ensures.lookup in
    let k = c.in-Some-get.ensures.lookup in
    let site = slice_get_read a.sites.now (length a.sites.now) a.entry.now.statement c.in-Some.site.now refl h.3.0 h.1 in
    let times = slice_get_read a.maps.now (length a.maps.now) a.entry.now.statement c.in-Some-get.times.now refl k.3.0 k.1 in
    let alive : a.entry.now.alive ≡ true = search rules in
    ap (map numbered) c.in_ok-push.ensures.items ∙ map-append numbered a.out.now.items _ ∙ part_added (map numbered a.out.now.items) a.sites.now c.in-Some.site.now a.entry.now a.maps.now c.in-Some-get.times.now alive site times
