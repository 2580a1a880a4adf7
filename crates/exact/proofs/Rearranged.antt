-- What the laws of a field give at once: chains of `same`, cancellation, and the rearrangements that Normal.antt rests on.
use Rattle.exact.specs.Field.{Field, Laws}

module _ {F : Field} (laws : Laws F) where
  pub back : {x y : F.Exact} → F.same x y → F.same y x
  back {x} {y} p = laws.same_sym x y p

  pub chain : {x y z : F.Exact} → F.same x y → F.same y z → F.same x z
  chain {x} {y} {z} p q = laws.same_trans x y z p q

  pub plus : {x x' y y' : F.Exact} → F.same x x' → F.same y y' → F.same (F.sum x y) (F.sum x' y')
  plus {x} {x'} {y} {y'} p q = laws.sum_same x x' y y' p q

  pub times : {x x' y y' : F.Exact} → F.same x x' → F.same y y' → F.same (F.product x y) (F.product x' y')
  times {x} {x'} {y} {y'} p q = laws.product_same x x' y y' p q

  pub over : {x x' y y' : F.Exact} → F.same x x' → F.same y y' → F.same (F.quotient x y) (F.quotient x' y')
  over {x} {x'} {y} {y'} p q = laws.quotient_same x x' y y' p q

  pub times_right : (x : F.Exact) {y y' : F.Exact} → F.same y y' → F.same (F.product x y) (F.product x y')
  times_right x q = times (laws.same_refl x) q

  pub times_left : {x x' : F.Exact} (y : F.Exact) → F.same x x' → F.same (F.product x y) (F.product x' y)
  times_left y p = times p (laws.same_refl y)

  pub unit_product : (x : F.Exact) → F.same (F.product F.unit x) x
  unit_product x = chain (laws.product_comm F.unit x) (laws.product_unit x)

  pub distrib_left : (x y z : F.Exact) → F.same (F.product (F.sum x y) z) (F.sum (F.product x z) (F.product y z))
  distrib_left x y z =
      chain (laws.product_comm (F.sum x y) z)
      (chain (laws.distrib z x y) (plus (laws.product_comm z x) (laws.product_comm z y)))

  -- x (y z) ~ y (x z)
  pub product_swap : (x y z : F.Exact) → F.same (F.product x (F.product y z)) (F.product y (F.product x z))
  product_swap x y z =
      chain (back (laws.product_assoc x y z))
      (chain (times_left z (laws.product_comm x y)) (laws.product_assoc y x z))

  pub sum_swap : (x y z : F.Exact) → F.same (F.sum x (F.sum y z)) (F.sum y (F.sum x z))
  sum_swap x y z =
      chain (back (laws.sum_assoc x y z))
      (chain (plus (laws.sum_comm x y) (laws.same_refl z)) (laws.sum_assoc y x z))

  -- (x y) (u v) ~ (x u) (y v)
  pub product_cross :
      (x y u v : F.Exact) → F.same (F.product (F.product x y) (F.product u v)) (F.product (F.product x u) (F.product y v))
  product_cross x y u v =
      chain (laws.product_assoc x y (F.product u v))
      (chain (times_right x (product_swap y u v)) (back (laws.product_assoc x u (F.product y v))))

  -- a common factor of the two sides goes
  pub cancel : {x z : F.Exact} (y : F.Exact) → F.same (F.product z y) (F.product x y) → F.same z x
  cancel {x} {z} y h = chain (back (undone z)) (chain (times_left (F.quotient F.unit y) h) (undone x))
    where
      undone : (w : F.Exact) → F.same (F.product (F.product w y) (F.quotient F.unit y)) w
      undone w =
          chain (laws.product_assoc w y (F.quotient F.unit y))
          (chain
          (times_right w
          (chain (laws.product_comm y (F.quotient F.unit y)) (laws.quotient_product F.unit y)))
          (laws.product_unit w))

  -- Fractions by what they are times their denominators: of x = n / d and y = m / c, the sum and the product.
  pub over_sum :
      {x y n d m c : F.Exact} →
      F.same (F.product x d) n → F.same (F.product y c) m →
      F.same (F.product (F.sum x y) (F.product d c)) (F.sum (F.product n c) (F.product m d))
  over_sum {x} {y} {n} {d} {m} {c} p q =
      chain (distrib_left x y (F.product d c))
      (plus
      (chain (back (laws.product_assoc x d c)) (times_left c p))
      (chain (times_right y (laws.product_comm d c)) (chain (back (laws.product_assoc y c d)) (times_left d q))))

  pub over_product :
      {x y n d m c : F.Exact} →
      F.same (F.product x d) n → F.same (F.product y c) m →
      F.same (F.product (F.product x y) (F.product d c)) (F.product n m)
  over_product {x} {y} {n} {d} {m} {c} p q = chain (product_cross x y d c) (times p q)

  -- Two fractions agree if their cross products do.
  pub over_same :
      {x y n d m c : F.Exact} →
      F.same (F.product x d) n → F.same (F.product y c) m → F.same (F.product n c) (F.product m d) → F.same x y
  over_same {x} {y} {n} {d} {m} {c} p q h =
      cancel (F.product d c)
      (chain (back (laws.product_assoc x d c))
      (chain (times_left c p)
      (chain h
      (chain (times_left d (back q))
      (chain (laws.product_assoc y c d) (times_right y (laws.product_comm c d)))))))

  pub divide : {z x y : F.Exact} → F.same (F.product z y) x → F.same z (F.quotient x y)
  divide {z} {x} {y} h = cancel y (chain h (back (laws.quotient_product x y)))

  pub multiply : {z x y : F.Exact} → F.same (F.quotient z y) x → F.same z (F.product x y)
  multiply {z} {x} {y} h = chain (back (laws.quotient_product z y)) (times_left y h)

  -- Of x = n / d and y = m / c with n = c: x y = m / d.
  pub over_meets :
      {x y n d m c : F.Exact} →
      F.same (F.product x d) n → F.same (F.product y c) m → F.same n c → F.same (F.product (F.product y x) d) m
  over_meets {x} {y} {n} {d} {m} {c} p q h =
      chain (laws.product_assoc y x d) (chain (times_right y (chain p h)) q)

  -- 1 / y = c / m
  pub over_inverse :
      {y m c : F.Exact} → F.same (F.product y c) m → F.same (F.product (F.quotient F.unit y) m) c
  over_inverse {y} {m} {c} q =
      let r = F.quotient F.unit y in
      chain (times_right r (back q))
      (chain (back (laws.product_assoc r y c)) (chain (times_left c (laws.quotient_product F.unit y)) (unit_product c)))

  pub quotient_inverse : (x y : F.Exact) → F.same (F.quotient x y) (F.product x (F.quotient F.unit y))
  quotient_inverse x y =
      cancel y
      (chain (laws.quotient_product x y)
      (back
      (chain (laws.product_assoc x (F.quotient F.unit y) y)
      (chain (times_right x (laws.quotient_product F.unit y)) (laws.product_unit x)))))

  -- Of x = n / d, another fraction that agrees with it.
  pub over_moves :
      {x n d m c : F.Exact} → F.same (F.product x d) n → F.same (F.product n c) (F.product m d) → F.same (F.product x c) m
  over_moves {x} {n} {d} {m} {c} p h =
      cancel d
      (chain (laws.product_assoc x c d)
      (chain (times_right x (laws.product_comm c d)) (chain (back (laws.product_assoc x d c)) (chain (times_left c p) h))))

  -- Of x = n / d, with n = g t and d = g u.
  pub over_strips :
      {x n d g t u : F.Exact} →
      F.same (F.product x d) n → F.same n (F.product g t) → F.same d (F.product g u) → F.same (F.product x u) t
  over_strips {x} {n} {d} {g} {t} {u} p h k =
      cancel g
      (chain (laws.product_assoc x u g)
      (chain (times_right x (laws.product_comm u g))
      (chain (times_right x (back k)) (chain p (chain h (laws.product_comm g t))))))
