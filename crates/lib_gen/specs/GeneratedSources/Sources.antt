-- The sources of the generated libraries and of the program that runs them, in the assembler's language.
use Rattle.std.specs.Prelude.{ℕ, ◌+◌, ◌*◌, ◌/◌, ◌%◌, nat_lt, if◌then◌else◌, List, [], ◌∷◌, ◌++◌, flat_map, map, codes}
use Rattle.std.specs.Fmt.{decimal}
use Rattle.std.specs.List.{range_with_len}
use Rattle.ld_base.specs.declared.linking.File.{File}
use Rattle.lib_gen.specs.GeneratedSources.Shape.{call_count, function_count, library_count}

-- each line ends in a line feed, 10

-- ---- a library

abbrev pub library_path : ℕ → List ℕ
library_path i = codes "lib/lib" ++ (decimal i ++ codes ".so")

-- a library is needed where it is there
abbrev pub needed_line : ℕ → ℕ → List ℕ
needed_line libraries d = if nat_lt d libraries then codes ".needed lib" ++ (decimal d ++ (codes ".so" ++ 10 ∷ [])) else []

-- function j of library i goes on at g
abbrev pub function_lines : ℕ → ℕ → List ℕ
function_lines i j =
    codes ".global f_" ++ (decimal i ++ (codes "_" ++ (decimal j ++ (10 ∷
    (codes "f_" ++ (decimal i ++ (codes "_" ++ (decimal j ++ (codes ": tail g" ++ 10 ∷ [])))))))))

-- which every library defines, and which answers its number and 1
abbrev pub last_lines : ℕ → List ℕ
last_lines i = codes ".global g" ++ (10 ∷ (codes "g: li a0, " ++ (decimal (i + 1) ++ (10 ∷ (codes "ret" ++ 10 ∷ [])))))

abbrev pub name_line : ℕ → List ℕ
name_line i = codes ".soname lib" ++ (decimal i ++ (codes ".so" ++ 10 ∷ []))

-- it needs the two libraries behind twice its number
unfoldable pub library_source : ℕ → ℕ → ℕ → List ℕ
library_source libraries functions i =
    let all = flat_map (function_lines i) (range_with_len 0 functions) in
    name_line i ++ (needed_line libraries (2 * i + 1) ++ (needed_line libraries (2 * i + 2) ++ (all ++ last_lines i)))

-- ---- the program

-- it calls a function, and adds what that answers to the sum
abbrev pub call_lines : ℕ → ℕ → List ℕ
call_lines functions x = codes "call f_" ++ (decimal (x / functions) ++ (codes "_" ++ (decimal (x % functions) ++ (10 ∷ (codes "add s0, s0, a0" ++ 10 ∷ [])))))

-- so many calls, beginning behind a number of them
abbrev pub calls_from : (functions number calls : ℕ) → List ℕ
calls_from functions number calls = flat_map (λ place. call_lines functions ((place + number) % calls)) (range_with_len 0 calls)

abbrev pub first_lines : List ℕ
first_lines = codes ".kind prog" ++ (10 ∷ (codes ".needed lib0.so" ++ (10 ∷ (codes "_start: li s0, 0" ++ 10 ∷ []))))

-- it exits with the sum
abbrev pub exit_lines : List ℕ
exit_lines = codes "mv a0, s0" ++ (10 ∷ (codes "li a7, 93" ++ (10 ∷ (codes "ecall" ++ 10 ∷ []))))

unfoldable pub program_source : ℕ → List ℕ
program_source number =
    first_lines ++ (calls_from (function_count number) number (call_count number) ++ exit_lines)

-- ---- all of them

abbrev pub library_file : ℕ → ℕ → File
library_file number i = record { path = library_path i; bytes = library_source (library_count number) (function_count number) i }

abbrev pub program_file : ℕ → File
program_file number = record { path = codes "gen"; bytes = program_source number }

unfoldable pub sources : ℕ → List File
sources number = map (library_file number) (range_with_len 0 (library_count number)) ++ program_file number ∷ []
