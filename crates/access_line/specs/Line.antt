-- 01, The access program: a line, without its line feed, is "r OFF W" or "w OFF W VAL" in decimal, a number having
-- 1 to 10 digits, with single spaces and nothing before or after; else it can't be read.
-- Bytes: 32 is the space, 114 'r', 119 'w'.
use Rattle.std.specs.Prelude.{List, [], ◌∷◌, Option, Some, None, cond, ◌&&◌, ℕ, eqb, length, drop}
use Rattle.decimal.specs.Read.{digits, value, is_number}
use Rattle.access_line.specs.declared.Access.{Access}
use Rattle.access_line.specs.declared.Access.TheVariants.{Read, Write}

-- what follows the digits that a text begins with
abbrev pub rest : List ℕ → List ℕ
rest t = drop (length (digits t)) t

-- a single space and a number: `then` says what the line is by the number and the text behind it
unfoldable pub field : List ℕ → (ℕ → List ℕ → Option Access) → Option Access
field [] then = None
field (b ∷ t) then = cond (eqb b 32 && is_number 10 (digits t)) (then (value (digits t)) (rest t)) None

-- nothing more
unfoldable pub at_end : List ℕ → Access → Option Access
at_end [] access = Some access
at_end (b ∷ t) access = None

-- " OFF W" and " OFF W VAL"
unfoldable pub read_form : List ℕ → Option Access
read_form t = field t (λ off t'. field t' (λ w t''. at_end t'' (Read off w)))

unfoldable pub write_form : List ℕ → Option Access
write_form t = field t (λ off t'. field t' (λ w t''. field t'' (λ v t'''. at_end t''' (Write off w v))))

-- the line
unfoldable pub line_of : List ℕ → Option Access
line_of [] = None
line_of (b ∷ t) = cond (eqb b 114) (read_form t) (cond (eqb b 119) (write_form t) None)
