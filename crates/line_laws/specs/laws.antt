pub mod RangeImages
