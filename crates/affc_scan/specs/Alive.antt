-- A part that can have instances, as the code holds it.
use Rattle.affc_nest.specs.Sites.{place}
use Rattle.affc_loops.specs.Loops.{Scheduled}
use Rattle.affc_scan.specs.declared.alive.Alive.{Alive}
use Rattle.affc_scan.specs.Numbered.{Numbered, scheduled_in}

abbrev pub numbered : Alive → Numbered
numbered p = record { place = place p.site.now; entry = p.entry.now; times = p.times.now }

abbrev pub as_scheduled : Alive → Scheduled
as_scheduled p = scheduled_in (numbered p)
