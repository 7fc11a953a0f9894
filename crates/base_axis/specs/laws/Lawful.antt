-- The axes of a sheet meet the laws of an axis.
use Rattle.std.proofs.Common.{refl, rules, inl, inr}
use Rattle.base_axis.specs.Along.{IsAxis, rows, columns}

pub rows_lawful : IsAxis rows
rows_lawful = record {
  last_low = search rules;
  last_high = search rules;
  line_put = λ p line. refl;
  cross_stays = λ p line. refl;
  own_line = λ p. refl;
  put_twice = λ p m n. refl;
  line_inside = λ p inside. inside.0;
  put_inside = λ p line inside on. (on, inside.1);
  one_of = inl refl;
}

pub columns_lawful : IsAxis columns
columns_lawful = record {
  last_low = search rules;
  last_high = search rules;
  line_put = λ p line. refl;
  cross_stays = λ p line. refl;
  own_line = λ p. refl;
  put_twice = λ p m n. refl;
  line_inside = λ p inside. inside.1;
  put_inside = λ p line inside on. (inside.0, on);
  one_of = inr refl;
}
