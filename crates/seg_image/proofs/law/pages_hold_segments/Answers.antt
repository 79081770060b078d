use Rattle.std.proofs.Common.{arith}
use Rattle.seg_image.proofs.Ordered.{all_pages, first, high_above, inside_pages, low_below, low_is, segment_fits, segment_is}
use Rattle.seg_image.proofs.law.pages_hold_segments.Goals as goal

pub returns-clause-low : goal.returns-clause-low
returns-clause-low c o v accepted inside = (inside_pages o accepted v inside).0

pub returns-clause-high : goal.returns-clause-high
returns-clause-high c o v accepted inside = (inside_pages o accepted v inside).1

pub returns-clause-from : goal.returns-clause-from
returns-clause-from c o k g v accepted at low = let first_page = low_below o accepted k g at in omega arith

pub returns-clause-to : goal.returns-clause-to
returns-clause-to c o k g v accepted at high = let last_page = high_above o accepted k g at in let all = all_pages o accepted in omega arith

pub returns-clause-some : goal.returns-clause-some
returns-clause-some c o accepted =
    let f = first o accepted in
    let low = low_is o accepted f.0 f.1 in
    let high = high_above o accepted 0 f.0 f.1 in
    let fits = segment_fits o accepted 0 f.0 f.1 in
    let memory = fits.memory in
    let all = all_pages o accepted in
    omega arith

pub returns-clause-few : goal.returns-clause-few
returns-clause-few c o accepted = let all = all_pages o accepted in omega arith

pub returns-clause-one : goal.returns-clause-one
returns-clause-one c o k g v accepted at low high = segment_is o accepted k g v at low high
