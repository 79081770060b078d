-- The linker's own object, of serial 0, and the symbols of its functions (dlopen(3); psABI, "Thread Local Storage").
use Rattle.std.specs.Prelude.{ℕ, if◌then◌else◌, List, Option, Some, None, codes}
use Rattle.std.specs.Str.{bytes_eq}

-- the symbol of the linker's own object with a name
unfoldable pub linker_symbol : List ℕ → Option ℕ
linker_symbol name =
    if bytes_eq name (codes "dlopen") then Some 1
    else if bytes_eq name (codes "dlmopen") then Some 2
    else if bytes_eq name (codes "dlsym") then Some 3
    else if bytes_eq name (codes "dlvsym") then Some 4
    else if bytes_eq name (codes "dlclose") then Some 5
    else if bytes_eq name (codes "dlerror") then Some 6
    else if bytes_eq name (codes "__tls_get_addr") then Some 7
    else None
