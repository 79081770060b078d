-- What a reference is to: a name, and what it asks of the version.
use Rattle.std.specs.Prelude.{ℕ, List}
use Rattle.ld_base.specs.declared.linking.Want.{Want}
use Rattle.ld_base.specs.declared.linking.Want.TheVariants as want
use Rattle.sym_lookup.specs.declared.sym_find.reference.Asked.{Asked}
use Rattle.sym_lookup.specs.declared.sym_find.reference.Asked.TheVariants as asked

pub record Reference : Type 0 where
  pub name : List ℕ
  pub want : Want

-- what is lent asks the same
abbrev pub want_as : Asked → Want
want_as (asked.Version version) = want.Version version.now
want_as asked.Plain = want.Plain
want_as asked.Dlsym = want.Dlsym
want_as (asked.Dlvsym version) = want.Dlvsym version.now
