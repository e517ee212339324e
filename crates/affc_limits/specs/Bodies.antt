-- Whether statements hold an assignment, the least place of a `for` or `if` in them that holds none, and that of a `for` that is one too many round one.
use Rattle.std.specs.Prelude.{ℕ, ◌==◌, nat_lt, false, not, ◌&&◌, ◌||◌, List, [], ◌∷◌, length, Option, None}
use Rattle.affc_grammar.specs.Draft as d
use Rattle.affc_grammar.specs.Limits.{no_round, assigned_in, empty_bodies, empty_bodies_in, has_assignment, loops_past, loops_past_in}
use Rattle.affc_limits.specs.declared.bodies.Bodies.{Bodies}
use Rattle.affc_syntax.specs.draft.Drafts.{stmts_of}
use Rattle.affc_limits.specs.Places.{least, lesser, place_if}

-- where `left` loops more may stand round an assignment
abbrev pub bodies : (left : ℕ) → d.StmtDraft → Bodies
bodies left s = record { assigns = nat_lt 0 (length (assigned_in no_round s)); empty = least (empty_bodies_in s); loops = least (loops_past_in left 0 s) }

abbrev pub all_bodies : (left : ℕ) → List d.StmtDraft → Bodies
all_bodies left xs = record { assigns = has_assignment (stmts_of xs); empty = least (empty_bodies (stmts_of xs)); loops = least (loops_past left 0 (stmts_of xs)) }

abbrev pub both : Bodies → Bodies → Bodies
both a b = record { assigns = a.assigns || b.assigns; empty = lesser a.empty b.empty; loops = lesser a.loops b.loops }

-- the least place of a word without an assignment inside, where this word stands round so much
abbrev pub empty_at : (at : ℕ) → Bodies → Option ℕ
empty_at at a = lesser (place_if (not a.assigns) at) a.empty

-- of an `if` with this word, which with what follows its `else` holds so much
abbrev pub under_if : (at : ℕ) → Bodies → Bodies
under_if at a = record { assigns = a.assigns; empty = empty_at at a; loops = a.loops }

-- of a `for` with this word, which is one too many where none is left
abbrev pub under_for : (left at : ℕ) → Bodies → Bodies
under_for left at a = record { assigns = a.assigns; empty = empty_at at a; loops = lesser (place_if ((left == 0) && a.assigns) at) a.loops }

-- those of further statements
abbrev pub on_with : (left : ℕ) → Bodies → List d.StmtDraft → Bodies
on_with left a [] = a
on_with left a (x ∷ xs) = on_with left (both a (bodies left x)) xs

abbrev pub no_bodies : Bodies
no_bodies = record { assigns = false; empty = None; loops = None }
