-- The header of a record.
use Rattle.std.specs.Prelude.{ℕ, ◌+◌, if◌then◌else◌, List, slice_index, Option, None, Some}
use Rattle.durable_log.specs.declared.scan.RecordHeader.{RecordHeader}
use Rattle.durable_log.specs.Records.{is_whole, number_at}

-- the header at the front
abbrev pub header_of : List ℕ → RecordHeader
header_of bytes = record { kind = slice_index bytes 1; name_len = number_at 2 bytes; bytes_len = number_at 10 bytes }

-- the header of the whole record at the front, if one stands there
abbrev pub whole_header : List ℕ → Option RecordHeader
whole_header bytes = if is_whole bytes then Some (header_of bytes) else None

-- the length of a record with this header
abbrev pub header_len : RecordHeader → ℕ
header_len header = 18 + (header.name_len + header.bytes_len)
