use Rattle.std.proofs.Common.{arith}
use Rattle.address_space.proofs.FreePages.{range_numbers}
use Rattle.address_space.proofs.regions.place_of.Goals as goal
use Rattle.address_space.proofs.regions.place_of.Goals.{then-address-lt-FIRST_PAGE-via-then-address-lt-FIRST_PAGE, then-address-lt-FIRST_PAGE-via-else-address-lt-FIRST_PAGE+then-address-ne0}
use Rattle.address_space.proofs.regions.place_of.Goals.{else-start-via-then-start+else-pages-start, else-start-via-else-start}

pub returns-then-address-lt-FIRST_PAGE-clause-none :
    goal.returns-then-address-lt-FIRST_PAGE-clause-none
returns-then-address-lt-FIRST_PAGE-clause-none c = λ all.
    let range = range_numbers c.args.address c.args.pages (omega arith) all in
    let here = range.1 in
    elim c.then-address-lt-FIRST_PAGE.branch [
      | then-address-lt-FIRST_PAGE-via-then-address-lt-FIRST_PAGE w ↦ omega arith
      | then-address-lt-FIRST_PAGE-via-else-address-lt-FIRST_PAGE+then-address-ne0 w ↦ omega arith
    ]

pub returns-else-start-clause-none : goal.returns-else-start-clause-none
returns-else-start-clause-none c = λ all.
    let range = range_numbers c.args.address c.args.pages (omega arith) all in
    let here = range.1 in
    let short = range.2 in
    elim c.else-start.branch [
      | else-start-via-then-start+else-pages-start w ↦ omega arith
      | else-start-via-else-start w ↦ omega arith
    ]
