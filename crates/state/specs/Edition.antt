-- The protocol's edition is chosen when a device is made, 2 with one starting number for all slots.
use Rattle.std.specs.Prelude.{ℕ}
use Rattle.state.specs.declared.edition.Edition.{Edition}
use Rattle.state.specs.declared.edition.Edition.TheVariants.{One, Two}
use Rattle.state.specs.declared.edition.Start.{Start}
use Rattle.state.specs.declared.edition.Start.TheVariants.{Edition1, Edition2}

-- an edition is its number
abbrev pub edition_number : Edition → ℕ
edition_number One = 1
edition_number Two = 2

-- the edition that is chosen
abbrev pub edition_of : Start → Edition
edition_of Edition1 = One
edition_of (Edition2 first) = Two

-- the number that every slot starts with: 0 in edition 1
abbrev pub first_of : Start → ℕ
first_of Edition1 = 0
first_of (Edition2 first) = first
