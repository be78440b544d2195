-- The flags of a command.
use Rattle.std.specs.Prelude.{◌/◌, ◌%◌, Bool, not, eqb}
use Rattle.command.specs.declared.flags.Flags.{Flags}

-- bit 0
abbrev pub irq_bit : Flags → Bool
irq_bit flags = eqb (flags.0 % 2) 1

-- bit 1
abbrev pub emit_bit : Flags → Bool
emit_bit flags = eqb (flags.0 / 2 % 2) 1

-- bit 2
abbrev pub wait_bit : Flags → Bool
wait_bit flags = eqb (flags.0 / 4 % 2) 1

-- bit 3
abbrev pub payload_bit : Flags → Bool
payload_bit flags = eqb (flags.0 / 8 % 2) 1

-- is any other bit set
abbrev pub reserved_bit : Flags → Bool
reserved_bit flags = not (eqb (flags.0 / 16) 0)
