-- Values outside a limit.
use Rattle.std.specs.Prelude.{Bool, ℤ, int_lt}
use Rattle.pl_points.specs.declared.limit.Limit.{Limit}
use Rattle.pl_points.specs.declared.limit.Limit.TheVariants.{Below, Above}

-- below the least, or above the most
abbrev pub is_outside : Limit → ℤ → Bool
is_outside (Below least) value = int_lt value least
is_outside (Above most) value = int_lt most value
