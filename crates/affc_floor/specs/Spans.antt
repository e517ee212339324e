-- Spans of time, and how many of them are open at an instant.
use Rattle.std.specs.Prelude.{◌≡◌, ◌<◌, ◌≤◌, ℕ, Bool, ◌&&◌, nat_le, nat_lt, nat_eq, List, length, get_or, Option, Some, None}
use Rattle.std.specs.List.{count_by}
use Rattle.affc_floor.specs.declared.span.Span.{Span}
use Rattle.affc_floor.specs.declared.span.Most.{Most}

-- open at some instant, of so many
pub record IsWithin (instants : ℕ) (s : Span) : Type 0 where
  pub some : s.from < s.until
  pub ends : s.until ≤ instants

-- open from its first instant on, and no longer at its end
abbrev pub is_open : (i : ℕ) → Span → Bool
is_open i s = nat_le s.from i && nat_lt i s.until

abbrev pub open_at : (i : ℕ) → List Span → ℕ
open_at i spans = count_by (is_open i) spans

abbrev pub begins : (i : ℕ) → Span → Bool
begins i s = nat_eq s.from i

abbrev pub ends_at : (i : ℕ) → Span → Bool
ends_at i s = nat_eq s.until i

-- so many are open there, nowhere more, and nowhere before as many
pub record IsGreatest (spans : List Span) (m : Most) : Type 0 where
  pub some : 1 ≤ m.spans
  pub there : open_at m.at spans ≡ m.spans
  pub most : (i : ℕ) → open_at i spans ≤ m.spans
  pub first : (i : ℕ) → i < m.at → open_at i spans < m.spans

abbrev pub IsMost : List Span → Option Most → Type 0
IsMost spans None = (i : ℕ) → open_at i spans ≡ 0
IsMost spans (Some m) = IsGreatest spans m

-- ---- How they are counted

-- at each of so many instants, how many spans pass a test there
pub record IsTally (test : ℕ → Span → Bool) (instants : ℕ) (spans : List Span) (counts : List ℕ) : Type 0 where
  pub long : length counts ≡ instants
  pub each : (i : ℕ) → i < instants → get_or counts i 0 ≡ count_by (test i) spans

-- how many are open just before instant i
abbrev pub is_left : (i : ℕ) → Span → Bool
is_left i s = nat_lt s.from i && nat_le i s.until

abbrev pub left_open : (i : ℕ) → List Span → ℕ
left_open i spans = count_by (is_left i) spans

-- the greatest number before instant i, and where it is first
pub record IsGreatestBefore (i : ℕ) (spans : List Span) (m : Most) : Type 0 where
  pub none : m.spans ≡ 0 → m.at ≡ 0
  pub there : 1 ≤ m.spans → open_at m.at spans ≡ m.spans
  pub most : (j : ℕ) → j < i → open_at j spans ≤ m.spans
  pub first : (j : ℕ) → j < m.at → open_at j spans < m.spans
