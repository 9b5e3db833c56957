use Rattle.std.proofs.Common.{◌≡◌, ◌-◌, length, []}
use Rattle.pl_syntax.specs.Parsing.{many_by, made}
use Rattle.pl_syntax.specs.Reading.{is_name_token, name_at, list_of}
use Rattle.pl_syntax.proofs.reader.Reader.other_names.Given as goal

-- the rest gives what the whole gives
abbrev pub invariant-names : goal.invariant-names
invariant-names l =
    many_by is_name_token name_at (l.end - l.counter) l.names l.self.rest.now
    ≡ made (list_of l.fn.first) (many_by is_name_token name_at (length l.fn.self.rest.now) []) l.fn.self.rest.now
