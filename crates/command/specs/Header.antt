-- The command at a ring's cursor. Any bytes are a command; a byte past the ring's end reads 0.
use Rattle.std.specs.Prelude.{ℕ, ◌+◌, ◌*◌, Bool, cond, List, length, get_or, leb}
use Rattle.memory.specs.Place.{word_at}
use Rattle.command.specs.declared.header.Command.{Command}
use Rattle.command.specs.declared.flags.Flags.{Flags}
use Rattle.command.specs.Opcode.{opcode_of}
use Rattle.command.specs.Flags.{wait_bit, payload_bit}

-- 4 for a wait
unfoldable pub wait_size : Flags → ℕ
wait_size flags = cond (wait_bit flags) 4 0

-- 4·len for a payload
unfoldable pub payload_size : Flags → ℕ → ℕ
payload_size flags len = cond (payload_bit flags) (4 * len) 0

-- the target: with a wait, the word after the header
unfoldable pub target_at : List ℕ → ℕ → Flags → ℕ
target_at ring cursor flags = cond (wait_bit flags) (word_at ring (cursor + 16)) 0

-- the header's four bytes and three words; the target, if any, and then the payload, if any, follow its 16 bytes
unfoldable pub command_at : List ℕ → ℕ → Command
command_at ring cursor =
    let flags : Flags = record { 0 = get_or ring (cursor + 1) 0 } in
    let len = get_or ring (cursor + 3) 0 in
    record {
      byte = get_or ring cursor 0;
      opcode = opcode_of (get_or ring cursor 0);
      flags = flags;
      rdst = get_or ring (cursor + 2) 0;
      len = len;
      arg0 = word_at ring (cursor + 4);
      arg1 = word_at ring (cursor + 8);
      arg2 = word_at ring (cursor + 12);
      target = target_at ring cursor flags;
      payload = cursor + (16 + wait_size flags);
      size = 16 + wait_size flags + payload_size flags len;
    }

-- a command is whole if that many bytes stand from the cursor on
unfoldable pub is_whole : List ℕ → ℕ → Bool
is_whole ring cursor = leb (cursor + (command_at ring cursor).size) (length ring)
