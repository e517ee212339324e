-- Which names a program may give to things of its own.
use Rattle.std.specs.Prelude.{ℕ, Bool, ◌||◌, List, [], ◌∷◌, codes}
use Rattle.std.specs.List.{list_any}
use Rattle.affc_lex.specs.Bytes.{same, begins}

-- the keywords of C (ISO/IEC 9899:2011, 6.4.1)
abbrev pub keywords : List (List ℕ)
keywords =
    codes "auto" ∷ codes "break" ∷ codes "case" ∷ codes "char" ∷ codes "const" ∷ codes "continue" ∷ codes "default" ∷ codes "do"
    ∷ codes "double" ∷ codes "else" ∷ codes "enum" ∷ codes "extern" ∷ codes "float" ∷ codes "for" ∷ codes "goto" ∷ codes "if"
    ∷ codes "inline" ∷ codes "int" ∷ codes "long" ∷ codes "register" ∷ codes "restrict" ∷ codes "return" ∷ codes "short" ∷ codes "signed"
    ∷ codes "sizeof" ∷ codes "static" ∷ codes "struct" ∷ codes "switch" ∷ codes "typedef" ∷ codes "union" ∷ codes "unsigned" ∷ codes "void"
    ∷ codes "volatile" ∷ codes "while" ∷ codes "_Alignas" ∷ codes "_Alignof" ∷ codes "_Atomic" ∷ codes "_Bool" ∷ codes "_Complex" ∷ codes "_Generic"
    ∷ codes "_Imaginary" ∷ codes "_Noreturn" ∷ codes "_Static_assert" ∷ codes "_Thread_local" ∷ []

-- how names begin that the implementation (7.1.3), `stdint.h` (7.20) and the prelude keep for themselves
abbrev pub reserved_beginnings : List (List ℕ)
reserved_beginnings =
    codes "_" ∷ codes "affc_" ∷ codes "INT" ∷ codes "UINT" ∷ codes "PTRDIFF_" ∷ codes "SIG_ATOMIC_" ∷ codes "SIZE_" ∷ codes "WCHAR_" ∷ codes "WINT_" ∷ []

-- whether the first text stands at the end of the second
abbrev pub ends : List ℕ → List ℕ → Bool
ends part [] = same part []
ends part (b ∷ bs) = same part (b ∷ bs) || ends part bs

abbrev pub is_reserved : List ℕ → Bool
is_reserved name =
    list_any (λ keyword. same keyword name) keywords
    || list_any (λ beginning. begins beginning name) reserved_beginnings
    || ends (codes "_t") name
    || same (codes "main") name
